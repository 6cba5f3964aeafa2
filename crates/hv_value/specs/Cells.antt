-- Cells and their kinds: this project's own rule.
use Rattle.std.specs.Prelude.{Bool, true, false, List, get_or, ℕ}
use Rattle.hv_value.specs.Days.{is_day_number}
use Rattle.hv_value.specs.declared.cell.Kind.{Kind}
use Rattle.hv_value.specs.declared.cell.Kind.TheVariants as kind
use Rattle.hv_value.specs.declared.cell.Cell.{Cell}
use Rattle.hv_value.specs.declared.cell.Cell.TheVariants as cell
use Rattle.hv_value.specs.declared.cell.CellRef.{CellRef}
use Rattle.hv_value.specs.declared.cell.CellRef.TheVariants as lent

-- the cell that a table lends
abbrev pub cell_lent : CellRef → Cell
cell_lent lent.Missing = cell.Missing
cell_lent (lent.Int n) = cell.Int n
cell_lent (lent.Date day) = cell.Date day
cell_lent (lent.Text text) = cell.Text text.now

-- whether a cell may stand in a column of the kind: a missing one in any, and a date only with a day number
abbrev pub is_of_kind : Kind → Cell → Bool
is_of_kind k cell.Missing = true
is_of_kind kind.Int (cell.Int n) = true
is_of_kind kind.Date (cell.Date day) = is_day_number day
is_of_kind kind.Text (cell.Text text) = true
is_of_kind k c = false

-- the cell at a column's place, missing past the end
abbrev pub cell_at : List Cell → ℕ → Cell
cell_at cells place = get_or cells place cell.Missing
