-- The values of a trellis, group by group.
use Rattle.std.proofs.Common.{◌≡◌, ◌∙◌, ap, sym, ℕ, ◌+◌, List, [], ◌∷◌, ◌++◌, Option, Some, slice_get, arith}
use Rattle.std.proofs.lemmas.List.FromFn.{map-range_with_len_more}
use Rattle.hv_value.specs.Rows.{Row}
use Rattle.hv_sketch.specs.Groups.{StandForEach, group_rows}
use Rattle.hv_view.specs.View.{of_each_group}

-- the values of one more group
pub one-more : {S X : Type 0} (stands : List Row → S → Type 0) (value : List Row → X) (group : Row → Option ℕ) (count : ℕ) (rows : List Row)
    (summaries : List S) (place : ℕ) (s : S) (values : List X) (x : X) → StandForEach group count stands rows summaries
    → slice_get summaries place ≡ Some s → ((rows : List Row) → stands rows s → x ≡ value rows)
    → values ≡ of_each_group group place value rows → values ++ x ∷ [] ≡ of_each_group group (place + 1) value rows
one-more stands value group count rows summaries place s values x all at is before =
    ap (λ vs. vs ++ x ∷ []) before
    ∙ ap (λ y. of_each_group group place value rows ++ y ∷ []) (is (group_rows group place rows) (all.each place s at))
    ∙ sym (map-range_with_len_more (λ g. value (group_rows group g rows)) 0 place place (omega arith))
