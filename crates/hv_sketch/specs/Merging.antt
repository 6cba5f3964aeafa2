-- When the summaries of two lists of rows may be merged ("Mergeable Summaries", section 1; the limits are this project's own rule).
use Rattle.std.specs.Prelude.{◌≡◌, ◌≤◌, ◌+◌, ◌^◌, List, length}
use Rattle.std.specs.List.{AllByRecursion}
use Rattle.hv_value.specs.Rows.{Row}

-- two rows are of one partition and have one number in it
pub record HaveOneTag (x y : Row) : Type 0 where
  pub part : x.part ≡ y.part
  pub number : x.number ≡ y.number

-- no row of the one list has the tag of a row of the other
abbrev pub IsApart : List Row → List Row → Type 0
IsApart a b = AllByRecursion (λ x. AllByRecursion (λ y. ¬ HaveOneTag x y) b) a

-- no tagged row is in both lists, and they have at most 2^42 rows together
pub record CanMerge (a b : List Row) : Type 0 where
  pub apart : IsApart a b
  pub few : length a + length b ≤ 2 ^ 42
