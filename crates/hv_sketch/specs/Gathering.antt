-- When a row is added to those that a walk over a table's rows has gathered.
use Rattle.std.specs.Prelude.{◌<◌, ℕ, List, [], ◌∷◌}
use Rattle.std.specs.List.{AllByRecursion}
use Rattle.hv_value.specs.Rows.{Row}
use Rattle.hv_sketch.specs.Merging.{CanMerge}

-- each row's number is below a number
abbrev pub AreBelow : ℕ → List Row → Type 0
AreBelow top rows = AllByRecursion (λ row. row.number < top) rows

-- the row comes after the rows: it has a greater number than each of them, and may be merged with them
pub record ComesNext (rows : List Row) (found : Row) : Type 0 where
  pub merge : CanMerge rows (found ∷ [])
  pub below : AreBelow found.number rows
