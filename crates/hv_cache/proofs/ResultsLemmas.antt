-- What a caller's proof cites of the words in `specs/Results.antt`: which pairs a call leaves, and what is found after it.
use Rattle.std.proofs.Common.{◌≡◌, ℕ, zero, suc, ◌<◌, Bool, true, ◌⊎◌, List, ◌∷◌, Option, Some, None, unwrap_or, Contains, refl, sym, ap, subst, inl, inr, arith}
use Rattle.std.specs.Bool.{Decides}
use Rattle.std.specs.Cmp.{IsEquivalence}
use Rattle.std.specs.Map.{lookup_key}
use Rattle.std.proofs.lemmas.Map.Made.{lookup_key_same, lookup_key_passes}
use Rattle.lru.proofs.CallerLemmas.{Contains-take, Contains-lookup, Contains-remove_entry, Contains-promoted}
use Rattle.lru.proofs.Splits.{Contains-cons}
use Rattle.hv_cache.specs.Results.{found, without, brought_front, put_front, cut}

module _ {K V : Type 0} (eq : K → K → Bool) (key : K) where
  -- a pair after `get` was there
  pub Contains-brought : (pairs : List (K × V)) (pair : K × V) → Contains (brought_front eq key pairs) pair → Contains pairs pair
  Contains-brought pairs pair there = Contains-promoted (eq key) pairs pair there

  passes_at : IsEquivalence eq → (pairs : List (K × V)) (o : Option K) → lookup_key (eq key) pairs ≡ o → eq key (unwrap_or o key) ≡ true
  passes_at laws pairs None is = laws.refl key
  passes_at laws pairs (Some stored) is = lookup_key_passes (eq key) pairs stored is

  -- a look-up after `put` finds the value
  pub found-put : IsEquivalence eq → (n : ℕ) (value : V) (pairs : List (K × V)) → 0 < n → found eq key (cut n (put_front eq key value pairs)) ≡ Some value
  found-put laws zero value pairs some = absurd (omega (arith, some))
  found-put laws (suc n) value pairs some = rw (passes_at laws pairs (lookup_key (eq key) pairs) refl) refl

-- where `==` is true exactly of a key and itself
module _ {K V : Type 0} (eq : K → K → Bool) (same : (a b : K) → Decides (eq a b) (a ≡ b)) (key : K) where
  stored_at : (pairs : List (K × V)) (o : Option K) → lookup_key (eq key) pairs ≡ o → unwrap_or o key ≡ key
  stored_at pairs None is = refl
  stored_at pairs (Some stored) is = sym (lookup_key_same same key pairs stored is)

  -- `put` puts this very key first
  pub put_front-same : (value : V) (pairs : List (K × V)) → put_front eq key value pairs ≡ (key, value) ∷ without eq key pairs
  put_front-same value pairs = ap (λ k. (k, value) ∷ without eq key pairs) (stored_at pairs (lookup_key (eq key) pairs) refl)

  -- a pair after `put` is the one that was put, or was there
  pub Contains-put : (n : ℕ) (value : V) (pairs : List (K × V)) (pair : K × V) → Contains (cut n (put_front eq key value pairs)) pair → ((key, value) ≡ pair) ⊎ Contains pairs pair
  Contains-put n value pairs pair there =
      let all : Contains (put_front eq key value pairs) pair = Contains-take n (put_front eq key value pairs) pair there in
      elim (Contains-cons (key, value) (without eq key pairs) pair (subst (λ l. Contains l pair) (put_front-same value pairs) all)) [
        | inl first ↦ inl first
        | inr rest ↦ inr (Contains-remove_entry (eq key) pairs pair rest)
      ]

  -- what is found is a pair of the key
  pub Contains-found : (value : V) (pairs : List (K × V)) → found eq key pairs ≡ Some value → Contains pairs (key, value)
  Contains-found value pairs some =
      let there = Contains-lookup (eq key) pairs value some in
      subst (λ k. Contains pairs (k, value)) (sym ((same key there.0).0 there.2)) there.1
