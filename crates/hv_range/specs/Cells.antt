-- What is read of one cell, and which cells of a list are values.
use Rattle.std.specs.Prelude.{ℤ, pos, Bool, true, false, not, List, filter}
use Rattle.hv_value.specs.declared.cell.Cell.{Cell}
use Rattle.hv_value.specs.declared.cell.Cell.TheVariants as cell
use Rattle.hv_sketch.specs.ColumnCells.{is_missing}

-- whether a cell is a text
abbrev pub is_text : Cell → Bool
is_text cell.Missing = false
is_text (cell.Int n) = false
is_text (cell.Date day) = false
is_text (cell.Text text) = true

-- the whole number that a cell holds, 0 where it holds none
abbrev pub number_of : Cell → ℤ
number_of cell.Missing = pos 0
number_of (cell.Int n) = n
number_of (cell.Date day) = pos 0
number_of (cell.Text text) = pos 0

-- the cells that aren't missing, in their order
abbrev pub values_of : List Cell → List Cell
values_of cells = filter (λ c. not (is_missing c)) cells
