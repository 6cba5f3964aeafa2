-- The rows that columns hold side by side: this project's own rule.
use Rattle.std.specs.Prelude.{ℕ, zero, suc, ◌+◌, List, [], ◌∷◌, map}
use Rattle.hv_value.specs.declared.cell.Cell.{Cell}
use Rattle.hv_value.specs.Cells.{cell_at}
use Rattle.hv_value.specs.Rows.{Row, column_of_records}
use Rattle.hv_value.specs.Schema.{Columns}
use Rattle.hv_column.specs.Column.{ColumnCells}

-- the cells of the row of a number, one of each column
abbrev pub cells_across : List ColumnCells → ℕ → List Cell
cells_across columns number = map (λ column. cell_at column.cells number) columns

-- the row of a number
abbrev pub row_across : ℕ → List ColumnCells → ℕ → Row
row_across part columns number = record { part = part; number = number; cells = cells_across columns number }

-- so many rows of a partition, from a number on
abbrev pub rows_across : ℕ → List ColumnCells → ℕ → ℕ → List Row
rows_across part columns number zero = []
rows_across part columns number (suc count) = row_across part columns number ∷ rows_across part columns (number + 1) count

-- the columns that records hold under a schema
abbrev pub columns_of_records : Columns → List (List (List ℕ)) → List ColumnCells
columns_of_records columns records = map (λ column. record { kind = column.1; cells = column_of_records records column }) columns
