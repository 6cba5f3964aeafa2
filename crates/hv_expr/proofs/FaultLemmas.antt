-- The first of what is wrong, in a list of several parts.
use Rattle.std.proofs.Common.{◌≡◌, ℕ, suc, ◌<◌, List, [], ◌∷◌, ◌++◌, length, get_or, slice_get, take, drop, Option, Some, None, is_some, true, false, ◌+◌, refl, ap, sym, ◌∙◌}
use Rattle.std.specs.Option.{option_or}
use Rattle.std.specs.List.{flat_map}
use Rattle.std.proofs.lemmas.List.Folds.{flat_map-map}
use Rattle.std.proofs.lemmas.Grind.{flat_map-append}
use Rattle.std.proofs.lemmas.List.{take_more}
use Rattle.std.proofs.Math.Seq.{split_at}
use Rattle.hv_expr.specs.declared.error.ExprErr.{ExprErr}

-- the first of a list is in its first part, or else in its second
pub first-append : (xs ys : List ExprErr) → slice_get (xs ++ ys) 0 ≡ option_or (slice_get xs 0) (slice_get ys 0)
first-append [] ys = refl
first-append (x ∷ xs) ys = refl

-- where a part begins with nothing, it is empty
pub none-first : (xs ys : List ExprErr) → slice_get xs 0 ≡ None → slice_get (xs ++ ys) 0 ≡ slice_get ys 0
none-first [] ys e = refl
none-first (x ∷ xs) ys e = absurd (cc e)

pub some-first : (xs ys : List ExprErr) (x : ExprErr) → slice_get xs 0 ≡ Some x → slice_get (xs ++ ys) 0 ≡ Some x
some-first [] ys x e = absurd (cc e)
some-first (y ∷ xs) ys x e = e

empty-first : (xs : List ExprErr) → slice_get xs 0 ≡ None → xs ≡ []
empty-first [] e = refl
empty-first (x ∷ xs) e = absurd (cc e)

module _ {A : Type 0} (f : A → List ExprErr) (parts : List A) (i : ℕ) (part : A) (within : i < length parts) (here : part ≡ get_or parts i part) where
  cut : flat_map f parts ≡ flat_map f (take i parts) ++ (f part ++ flat_map f (drop (suc i) parts))
  cut =
      ap (flat_map f) (split_at parts i part within) ∙ flat_map-append f (take i parts) (get_or parts i part ∷ drop (suc i) parts)
      ∙ ap (λ p. flat_map f (take i parts) ++ (f p ++ flat_map f (drop (suc i) parts))) (sym here)

  -- where the parts before one have nothing and it has something, its first is the first of all
  pub found-first : flat_map f (take i parts) ≡ [] → (first : Option ExprErr) → is_some first ≡ true → first ≡ slice_get (f part) 0
      → first ≡ slice_get (flat_map f parts) 0
  found-first before None some is = absurd (cc some)
  found-first before (Some x) some is =
      let rest : List ExprErr = flat_map f (drop (suc i) parts) in
      sym (ap (λ xs. slice_get xs 0) (cut ∙ ap (λ xs. xs ++ (f part ++ rest)) before) ∙ some-first (f part) rest x (sym is))

  -- where it has nothing either, the parts up to it have nothing
  pub none-more : flat_map f (take i parts) ≡ [] → (first : Option ExprErr) → is_some first ≡ false → first ≡ slice_get (f part) 0
      → flat_map f (take (i + 1) parts) ≡ []
  none-more before (Some x) none is = absurd (cc none)
  none-more before None none is =
      let own : f part ≡ [] = empty-first (f part) (sym is) in
      ap (flat_map f) (take_more parts i part within) ∙ flat_map-append f (take i parts) (get_or parts i part ∷ [])
      ∙ ap (λ p. flat_map f (take i parts) ++ (f p ++ [])) (sym here) ∙ ap (λ xs. flat_map f (take i parts) ++ (xs ++ [])) own ∙ ap (λ xs. xs ++ []) before

pub ruleset parts = flat_map-map
