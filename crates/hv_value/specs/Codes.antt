-- A column of texts by codes, as a table lends it: this project's own rule.
use Rattle.std.specs.Prelude.{◌≡◌, ◌≤◌, ◌<◌, ℕ, zero, suc, List, [], length, map, get_or, slice_get, Some}
use Rattle.std.specs.List.{AllByRecursion}
use Rattle.hv_value.specs.declared.cell.Cell.{Cell}
use Rattle.hv_value.specs.declared.cell.Cell.TheVariants as cell
use Rattle.hv_value.specs.Cells.{cell_at}
use Rattle.hv_value.specs.Rows.{Row}

-- the cell that a code stands for: 0 for a missing one, else the text at one place less
abbrev pub coded_cell : List (List ℕ) → ℕ → Cell
coded_cell words zero = cell.Missing
coded_cell words (suc code) = cell.Text (get_or words code [])

-- the rows' cells of a column stand in a list, each at its row's number
abbrev pub StandAt : List Cell → ℕ → List Row → Type 0
StandAt cells col rows = AllByRecursion (λ row. slice_get cells row.number ≡ Some (cell_at row.cells col)) rows

-- the codes are those of the rows' cells, each at its row's number; no text stands twice among the words
pub record HoldCodes (col : ℕ) (rows : List Row) (words : List (List ℕ)) (codes : List ℕ) : Type 0 where
  pub stand : StandAt (map (coded_cell words) codes) col rows
  pub within : AllByRecursion (λ code. code ≤ length words) codes
  pub own : (i j : ℕ) → i < length words → j < length words → get_or words i [] ≡ get_or words j [] → i ≡ j
