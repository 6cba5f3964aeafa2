-- Lists made place by place, and the slots of a grid.
use Rattle.std.proofs.Common.{◌≡◌, ◌<◌, ◌+◌, ◌*◌, ◌++◌, ◌∙◌, sym, ap, ℕ, List, [], ◌∷◌, map, arith, rules}
use Rattle.std.specs.List.{range_with_len}
use Rattle.std.proofs.lemmas.List.FromFn.{map-range_with_len_more}

-- a value more of a list that is made place by place
pub one_more : {X : Type 0} (f : ℕ → X) (i : ℕ) (made : List X) (x : X) → made ≡ map f (range_with_len 0 i) → x ≡ f i
    → made ++ x ∷ [] ≡ map f (range_with_len 0 (i + 1))
one_more f i made x is same =
    ap (λ l. l ++ x ∷ []) is ∙ ap (λ y. map f (range_with_len 0 i) ++ y ∷ []) same ∙ sym (map-range_with_len_more f 0 i i (omega arith))

-- the slots of a row of a grid are before those of the rows after it
pub in-grid : (row column rows width : ℕ) → row < rows → column < width → row * width + column < rows * width
in-grid row column rows width above within = search (rules, arith)
