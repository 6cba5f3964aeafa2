-- The cells of one column over a list of rows.
use Rattle.std.specs.Prelude.{ℕ, Bool, true, false, List, map}
use Rattle.hv_value.specs.declared.cell.Cell.{Cell}
use Rattle.hv_value.specs.declared.cell.Cell.TheVariants as cell
use Rattle.hv_value.specs.Cells.{cell_at}
use Rattle.hv_value.specs.Rows.{Row}

-- the cells of the column, in the order of the rows
abbrev pub cells_in : ℕ → List Row → List Cell
cells_in col rows = map (λ row. cell_at row.cells col) rows

-- whether a cell is missing
abbrev pub is_missing : Cell → Bool
is_missing cell.Missing = true
is_missing (cell.Int n) = false
is_missing (cell.Date day) = false
is_missing (cell.Text text) = false
