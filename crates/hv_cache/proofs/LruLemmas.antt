-- What the calls of lru leave keeps within the capacity, and `put` as lru tells it is the value put first, with what is
-- past the capacity cut off.
use Rattle.std.proofs.Common.{◌≡◌, Result, Ok, Err, OnOk, OnErr, ℕ, zero, suc, ◌+◌, ◌-◌, ◌<◌, ◌≤◌, Bool, true, false, List, [], ◌∷◌, length, take, take_all, Option, Some, None, refl, sym, ap, subst, arith}
use Rattle.std.proofs.lemmas.List.{length-take}
use Rattle.std.specs.Map.{lookup_entry, lookup_key, remove_entry}
use Rattle.std.specs.Option.{option_map_or}
use Rattle.lru.specs.LruCache.{LruCache, lru_cache, promoted, put_entries}
use Rattle.hv_cache.specs.Recent.{recent, IsWithin}
use Rattle.hv_cache.specs.Results.{put_front, cut}

-- what the look-ups of a key tell of one another
record Found {K V : Type 0} (test : K → Bool) (es : List (K × V)) (e : K × V) : Type 0 where
  pub key : lookup_key test es ≡ Some e.0
  pub fewer : length (remove_entry test es) + 1 ≡ length es

record Missed {K V : Type 0} (test : K → Bool) (es : List (K × V)) : Type 0 where
  pub key : lookup_key test es ≡ None
  pub same : remove_entry test es ≡ es

module _ {K V : Type 0} (test : K → Bool) where
  where_found : (es : List (K × V)) (e : K × V) → lookup_entry test es ≡ Some e → Found test es e
  where_found [] e some = cc
  where_found (f ∷ es) e some = (elim (test f.0) as (λ b. test f.0 ≡ b → Found test (f ∷ es) e) [
    | true ↦ λ passes. let here = rw passes at some in let same : f ≡ e = cc in record { key = rw passes (ap (λ g. Some g.0) same); fewer = rw passes (omega arith) }
    | false ↦ λ fails. let after = where_found es e (rw fails at some) in record { key = rw fails after.key; fewer = rw fails (omega (arith, after.fewer)) }
  ]) refl

  where_missed : (es : List (K × V)) → lookup_entry test es ≡ None → Missed test es
  where_missed [] none = record { key = refl; same = refl }
  where_missed (f ∷ es) none = (elim (test f.0) as (λ b. test f.0 ≡ b → Missed test (f ∷ es)) [
    | true ↦ λ passes. cc
    | false ↦ λ fails. let after = where_missed es (rw fails at none) in record { key = rw fails after.key; same = rw fails (ap (λ l. f ∷ l) after.same) }
  ]) refl

  brought_at : (es : List (K × V)) (o : Option (K × V)) → lookup_entry test es ≡ o → length (option_map_or (λ e. e ∷ remove_entry test es) o es) ≡ length es
  brought_at es None none = refl
  brought_at es (Some e) there = let found = where_found es e there in omega (arith, found.fewer)

  -- a pair that is brought to the front is still one pair
  pub within_promoted : (c : LruCache K V) → IsWithin (recent c.cap c.entries) → IsWithin (recent c.cap (promoted test c.entries))
  within_promoted c within = record { some = within.some; small = within.small; few = rw (brought_at c.entries (lookup_entry test c.entries) refl) within.few }

module _ {K V : Type 0} (eq : K → K → Bool) (key : K) (value : V) where
  cut_cons : (n : ℕ) (es : List (K × V)) → 0 < n → (key, value) ∷ take (n - 1) es ≡ take n ((key, value) ∷ es)
  cut_cons zero es some = absurd (omega (arith, some))
  cut_cons (suc n) es some = let before : suc n - 1 ≡ n = omega arith in ap (λ m. (key, value) ∷ take m es) before

  put_at : (c : LruCache K V) (o : Option (K × V)) → lookup_entry (eq key) c.entries ≡ o → 0 < c.cap → length c.entries ≤ c.cap
      → option_map_or (λ e. (e.0, value) ∷ remove_entry (eq key) c.entries) o ((key, value) ∷ take (c.cap - 1) c.entries) ≡ cut c.cap (put_front eq key value c.entries)
  put_at c None none some few = let missed = where_missed (eq key) c.entries none in rw (missed.key, missed.same) (cut_cons c.cap c.entries some)
  put_at c (Some e) there some few = let found = where_found (eq key) c.entries e there in rw found.key (sym (take_all c.cap ((e.0, value) ∷ remove_entry (eq key) c.entries) (omega (arith, found.fewer, few))))

  pub put_entries_cut : (c : LruCache K V) → IsWithin (recent c.cap c.entries) → put_entries eq c key value ≡ cut c.cap (put_front eq key value c.entries)
  put_entries_cut c within = put_at c (lookup_entry (eq key) c.entries) refl within.some within.few

  -- what is cut keeps within the capacity
  pub IsWithin-put : (c : LruCache K V) → IsWithin (recent c.cap c.entries) → IsWithin (recent c.cap (put_entries eq c key value))
  IsWithin-put c within = record { some = within.some; small = within.small; few = rw (put_entries_cut c within) (omega (arith, length-take c.cap (put_front eq key value c.entries))) }

  -- so does either answer of `put`
  pub within_after : {A E : Type 0} (r : Result A E) (c new : LruCache K V) → IsWithin (recent c.cap c.entries)
      → OnOk r (new ≡ lru_cache (put_entries eq c key value) c.cap) → OnErr r (new ≡ c) → IsWithin (recent new.cap new.entries)
  within_after (Ok _) c new within ok err = subst (λ d. IsWithin (recent d.cap d.entries)) (sym ok) (IsWithin-put c within)
  within_after (Err _) c new within ok err = subst (λ d. IsWithin (recent d.cap d.entries)) (sym err) within
