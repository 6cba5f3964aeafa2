-- The place of a name in a header, and lists made of a schema's columns one by one.
use Rattle.std.proofs.Common.{◌≡◌, ◌<◌, ◌+◌, ◌∷◌, ◌++◌, [], ℕ, zero, suc, List, Bool, Some, None, true, false, refl, ap, length, map, get_or, take, arith, add-one}
use Rattle.std.specs.Prelude.{option_map, position, slice_get}
use Rattle.std.proofs.lemmas.Bool.{le-ltb, lt-ltb}
use Rattle.std.proofs.lemmas.List.Sums.{position_or_len_is}

-- the first place that passes
pub position-found : {X : Type 0} (p : X → Bool) (xs : List X) (i : ℕ) (d : X) → i < length xs
    → ((k : ℕ) → k < i → p (get_or xs k d) ≡ false) → p (get_or xs i d) ≡ true → Some i ≡ position p xs
position-found p xs i d within before here =
    rw (position_or_len_is p xs i d (omega (arith, within)) before (λ _. here), lt-ltb i (length xs) within) refl

-- where none passes there is no place
pub position-none : {X : Type 0} (p : X → Bool) (xs : List X) (d : X)
    → ((k : ℕ) → k < length xs → p (get_or xs k d) ≡ false) → None ≡ position p xs
position-none p xs d before =
    rw (position_or_len_is p xs (length xs) d (omega arith) before (λ h. absurd (omega (arith, h))), le-ltb (length xs) (length xs) (omega arith)) refl

next-from : {X Y Z : Type 0} (g : X → Z) (h : Z → Y) (xs : List X) (j : ℕ) (z : Z) → option_map g (slice_get xs j) ≡ Some z
    → map (λ x. h (g x)) (take (suc j) xs) ≡ map (λ x. h (g x)) (take j xs) ++ h z ∷ []
next-from g h [] j z there = absurd (cc there)
next-from g h (x ∷ xs) zero z there = let same : g x ≡ z = cc there in rw same refl
next-from g h (x ∷ xs) (suc j) z there = ap (λ (rest : List _). h (g x) ∷ rest) (next-from g h xs j z there)

-- a list made of the first elements, with what the next one gives
pub map-next : {X Y Z : Type 0} (g : X → Z) (h : Z → Y) (xs : List X) (j : ℕ) (z : Z) → option_map g (slice_get xs j) ≡ Some z
    → map (λ x. h (g x)) (take (j + 1) xs) ≡ map (λ x. h (g x)) (take j xs) ++ h z ∷ []
map-next g h xs j z there = rw add-one (next-from g h xs j z there)
