-- Columns as records are pushed into them.
use Rattle.std.specs.Prelude.{ℕ, ◌+◌, ◌^◌, ◌≤◌, List, [], ◌∷◌, ◌++◌, length, Option, option_and_then, position, bytes_eq}
use Rattle.csv.specs.Records.{field_at}
use Rattle.hv_value.specs.declared.cell.Kind.{Kind}
use Rattle.hv_value.specs.Rows.{cell_of_found}
use Rattle.hv_column.specs.Column.{ColumnCells}

-- the place of a column: the first field of the header with its name
abbrev pub place_in : List (List ℕ) → List ℕ × Kind → Option ℕ
place_in header column = position (bytes_eq column.0) header

-- a schema's column without cells
abbrev pub empty_column : List ℕ × Kind → ColumnCells
empty_column column = record { kind = column.1; cells = [] }

-- a column with the cell of one more record
abbrev pub with_field : Option ℕ → List (List ℕ) → ColumnCells → ColumnCells
with_field place fields column =
    record column { cells = column.cells ++ cell_of_found column.kind (option_and_then (field_at fields) place) ∷ [] }

-- the columns of such places with the cells of one more record
abbrev pub with_row : List (Option ℕ) → List (List ℕ) → List ColumnCells → List ColumnCells
with_row [] fields columns = []
with_row (place ∷ places) fields [] = []
with_row (place ∷ places) fields (column ∷ columns) = with_field place fields column ∷ with_row places fields columns

-- the columns of such places with the cells of more records
abbrev pub with_rows : List (Option ℕ) → List (List (List ℕ)) → List ColumnCells → List ColumnCells
with_rows places [] columns = columns
with_rows places (fields ∷ records) columns = with_rows places records (with_row places fields columns)

-- each column has room for so many more cells
abbrev pub HaveRoom : ℕ → List ColumnCells → Type 0
HaveRoom more [] = Unit {0}
HaveRoom more (column ∷ columns) = (length column.cells + more ≤ 2 ^ 26) × HaveRoom more columns
