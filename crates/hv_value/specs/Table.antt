-- A table as contracts see it: its columns, its partition's number and the list of its tagged rows.
use Rattle.std.specs.Prelude.{ℕ, ◌+◌, ◌^◌, ◌<◌, ◌≤◌, ◌≡◌, List, [], ◌∷◌, Bool, true, false, ◌&&◌, nat_le, if◌then◌else◌, Option, Some, None}
use Rattle.hv_value.specs.declared.cell.Cell.{Cell}
use Rattle.hv_value.specs.Cells.{is_of_kind}
use Rattle.hv_value.specs.Schema.{Columns}
use Rattle.hv_value.specs.Rows.{Row}

-- whether there is one cell for each column, missing or of its kind
abbrev pub have_kinds : Columns → List Cell → Bool
have_kinds [] [] = true
have_kinds [] (c ∷ cells) = false
have_kinds (column ∷ columns) [] = false
have_kinds (column ∷ columns) (c ∷ cells) = is_of_kind column.1 c && have_kinds columns cells

-- the row is of the partition, has a number at or above `from` and below 2^26, and cells of the columns' kinds
pub record IsRowOf (columns : Columns) (part from : ℕ) (row : Row) : Type 0 where
  pub tagged : row.part ≡ part
  pub at_least : from ≤ row.number
  pub below : row.number < 2 ^ 26
  pub kinds : have_kinds columns row.cells ≡ true

-- the rows are of the partition, and their numbers rise strictly from `from` on
abbrev pub AreRowsFrom : Columns → ℕ → ℕ → List Row → Type 0
AreRowsFrom columns part from [] = Unit {0}
AreRowsFrom columns part from (row ∷ rows) = IsRowOf columns part from row × AreRowsFrom columns part (row.number + 1) rows

-- what each table keeps: tagged rows whose numbers rise strictly below 2^26, with cells of the columns' kinds
abbrev pub IsTable : Columns → ℕ → List Row → Type 0
IsTable columns part rows = AreRowsFrom columns part 0 rows

-- the rows with numbers at or above a number, of rows whose numbers rise
abbrev pub onward : ℕ → List Row → List Row
onward from [] = []
onward from (row ∷ rows) = if nat_le from row.number then row ∷ rows else onward from rows

abbrev pub first_row : List Row → Option Row
first_row [] = None
first_row (row ∷ rows) = Some row

-- the first row with a number at or above a number
abbrev pub row_from : ℕ → List Row → Option Row
row_from from rows = first_row (onward from rows)
