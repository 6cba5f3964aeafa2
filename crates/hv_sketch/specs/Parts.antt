-- The rows of a table's partitions below a number, as they are added up partition by partition.
use Rattle.std.specs.Prelude.{ℕ, ◌*◌, ◌<◌, ◌≤◌, ◌^◌, List, length}
use Rattle.std.specs.List.{AllByRecursion}
use Rattle.hv_value.specs.Rows.{Row}

-- the rows are of partitions below a number, at most 2^26 for each
pub record AreBefore (part : ℕ) (rows : List Row) : Type 0 where
  pub lower : AllByRecursion (λ row. row.part < part) rows
  pub few : length rows ≤ part * 2 ^ 26
