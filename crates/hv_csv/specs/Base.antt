-- The table of a partition's own rows, as contracts see it and as it is kept.
use Rattle.std.specs.Prelude.{ℕ, ◌≡◌, List, [], ◌∷◌, length}
use Rattle.hv_value.specs.Rows.{Row}
use Rattle.hv_value.specs.Schema.{Columns}
use Rattle.hv_value.specs.Table.{IsTable}
use Rattle.hv_column.specs.Column.{ColumnCells}
use Rattle.hv_column.specs.Rows.{rows_across}

-- what contracts see of a table: its columns, its partition's number and its tagged rows
pub record TableRows : Type 0 where
  pub columns : Columns
  pub part : ℕ
  pub rows : List Row

-- each column has so many cells
abbrev pub HaveLength : ℕ → List ColumnCells → Type 0
HaveLength count [] = Unit {0}
HaveLength count (column ∷ columns) = (length column.cells ≡ count) × HaveLength count columns

-- columns that hold a table of so many rows under a schema
pub record HoldTable (columns : Columns) (part : ℕ) (cols : List ColumnCells) (count : ℕ) : Type 0 where
  pub table : IsTable columns part (rows_across part cols 0 count)
  pub wide : length cols ≡ length columns
  pub long : HaveLength count cols

-- the number of rows that columns hold: that of the first one's cells
abbrev pub row_count : List ColumnCells → ℕ
row_count [] = 0
row_count (column ∷ columns) = length column.cells
