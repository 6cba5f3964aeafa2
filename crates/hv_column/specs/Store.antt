-- How a column's cells are kept, and the cells that they stand for.
use Rattle.std.specs.Prelude.{ℕ, List, Option, Some, None, map}
use Rattle.hv_value.specs.Rows.{date_cell, int_cell}
use Rattle.hv_value.specs.declared.cell.Cell.{Cell}
use Rattle.hv_value.specs.declared.cell.Cell.TheVariants as cell
use Rattle.hv_value.specs.declared.cell.Kind.TheVariants as kind
use Rattle.hv_column.specs.Column.{ColumnCells}
use Rattle.hv_column.specs.declared.column.Store.{Store}
use Rattle.hv_column.specs.declared.column.Store.TheVariants as store

-- a text where there is one, else missing
abbrev pub text_cell : Option (List ℕ) → Cell
text_cell None = cell.Missing
text_cell (Some text) = cell.Text text

-- the column that the kept values stand for
abbrev pub content_of : Store → ColumnCells
content_of (store.Ints ints) = record { kind = kind.Int; cells = map int_cell ints }
content_of (store.Dates dates) = record { kind = kind.Date; cells = map date_cell dates }
content_of (store.Texts texts) = record { kind = kind.Text; cells = map text_cell texts }
