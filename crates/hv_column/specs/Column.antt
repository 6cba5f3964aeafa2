-- A column as contracts see it: this project's own rule.
use Rattle.std.specs.Prelude.{◌≡◌, ◌≤◌, ◌^◌, List, length, true}
use Rattle.std.specs.List.{list_all}
use Rattle.hv_value.specs.Cells.{is_of_kind}
use Rattle.hv_value.specs.declared.cell.Cell.{Cell}
use Rattle.hv_value.specs.declared.cell.Kind.{Kind}

-- the kind of a column, and its cells in the order of the rows
pub record ColumnCells : Type 0 where
  pub kind : Kind
  pub cells : List Cell

-- there are at most 2^26 cells, each missing or of the kind
pub record AreCells (column : ColumnCells) : Type 0 where
  pub few : length column.cells ≤ 2 ^ 26
  pub fit : list_all (is_of_kind column.kind) column.cells ≡ true
