-- A partition's table as contracts see it: columns side by side, and the rows of them that it has. This project's own rule.
use Rattle.std.specs.Prelude.{ℕ, ◌≡◌, ◌≤◌, ◌^◌, List, length, map, true}
use Rattle.std.specs.List.{AllByRecursion}
use Rattle.hv_value.specs.Rows.{Row}
use Rattle.hv_value.specs.Schema.{Columns, is_schema}
use Rattle.hv_member.specs.Member.{RowSet}
use Rattle.hv_member.specs.Sets.{IsSetBelow}
use Rattle.hv_column.specs.Column.{AreCells, ColumnCells}
use Rattle.hv_column.specs.Rows.{row_across}

-- the columns of the schema, the partition's number, the columns' cells, and the rows that are there
pub record PartRows : Type 0 where
  pub columns : Columns
  pub part : ℕ
  pub cols : List ColumnCells
  pub member : RowSet

-- the columns have the schema's kinds, in order, and each has so many cells
pub record Agree (columns : Columns) (cols : List ColumnCells) (size : ℕ) : Type 0 where
  pub kinds : map (λ (column : ColumnCells). column.kind) cols ≡ map (λ column. column.1) columns
  pub lengths : AllByRecursion (λ (column : ColumnCells). length column.cells ≡ size) cols

-- the rows of the numbers, each with all columns' cells at its number
abbrev pub rows_at : ℕ → List ColumnCells → List ℕ → List Row
rows_at part cols numbers = map (row_across part cols) numbers

-- the tagged rows of a table
abbrev pub rows_of : PartRows → List Row
rows_of table = rows_at table.part table.cols table.member.rows

-- what each table keeps
pub record HoldPart (table : PartRows) : Type 0 where
  pub schema : is_schema table.columns ≡ true
  pub agree : Agree table.columns table.cols table.member.size
  pub cells : AllByRecursion AreCells table.cols
  pub member : IsSetBelow table.member.size table.member.rows
  pub few : table.member.size ≤ 2 ^ 26
