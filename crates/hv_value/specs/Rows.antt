-- The rows of a partition's bytes: the records that the crate csv defines, read under a schema by this project's own rule.
use Rattle.std.specs.Prelude.{ℕ, ◌+◌, ℤ, List, [], ◌∷◌, map, Option, Some, None, option_and_then, position, bytes_eq, if◌then◌else◌}
use Rattle.std.specs.Str.{is_utf8}
use Rattle.csv.specs.Reading.{records, default_config, strip_bom}
use Rattle.csv.specs.Records.{field_at}
use Rattle.hv_value.specs.declared.cell.Kind.{Kind}
use Rattle.hv_value.specs.declared.cell.Kind.TheVariants as kind
use Rattle.hv_value.specs.declared.cell.Cell.{Cell}
use Rattle.hv_value.specs.declared.cell.Cell.TheVariants as cell
use Rattle.hv_value.specs.Days.{day_of_text}
use Rattle.hv_value.specs.Number.{int_of_text}
use Rattle.hv_value.specs.Schema.{Columns}

-- a row with its partition and its number among all rows of the partition
pub record Row : Type 0 where
  pub part : ℕ
  pub number : ℕ
  pub cells : List Cell

-- a whole number where there is one, else missing
abbrev pub int_cell : Option ℤ → Cell
int_cell None = cell.Missing
int_cell (Some n) = cell.Int n

-- a day where there is one, else missing
abbrev pub date_cell : Option ℤ → Cell
date_cell None = cell.Missing
date_cell (Some day) = cell.Date day

-- what a field reads as in a column of the kind: missing where it doesn't read, as a text that isn't UTF-8
abbrev pub cell_of_field : Kind → List ℕ → Cell
cell_of_field kind.Int field = int_cell (int_of_text field)
cell_of_field kind.Date field = date_cell (day_of_text field)
cell_of_field kind.Text field = if is_utf8 field then cell.Text field else cell.Missing

-- the same of a field that may be absent, and is missing then
abbrev pub cell_of_found : Kind → Option (List ℕ) → Cell
cell_of_found k None = cell.Missing
cell_of_found k (Some field) = cell_of_field k field

-- a record's cell of a column: its field at the first place where the header has the column's name
abbrev pub cell_in : List (List ℕ) → List (List ℕ) → List ℕ × Kind → Cell
cell_in header fields column = cell_of_found column.1 (option_and_then (field_at fields) (position (bytes_eq column.0) header))

-- a partition's row: a record under the header
abbrev pub row_of : Columns → ℕ → List (List ℕ) → ℕ → List (List ℕ) → Row
row_of columns part header number fields = record { part = part; number = number; cells = map (cell_in header fields) columns }

-- the rows of the records, numbered upwards from a number
abbrev pub rows_from : Columns → ℕ → List (List ℕ) → ℕ → List (List (List ℕ)) → List Row
rows_from columns part header number [] = []
rows_from columns part header number (fields ∷ rest) = row_of columns part header number fields ∷ rows_from columns part header (number + 1) rest

-- the first record is the header, and each further one a row
abbrev pub rows_of_records : Columns → ℕ → List (List (List ℕ)) → List Row
rows_of_records columns part [] = []
rows_of_records columns part (header ∷ rest) = rows_from columns part header 0 rest

-- the records of a partition's bytes: csv's default dialect, without a byte order mark
abbrev pub records_of : List ℕ → List (List (List ℕ))
records_of bytes = records default_config (strip_bom bytes)

-- the rows of a partition's bytes under a schema
unfoldable pub base_rows : Columns → ℕ → List ℕ → List Row
base_rows columns part bytes = rows_of_records columns part (records_of bytes)

-- the cells of one column in the rows of the records
abbrev pub column_of_records : List (List (List ℕ)) → List ℕ × Kind → List Cell
column_of_records [] column = []
column_of_records (header ∷ rest) column = map (λ fields. cell_in header fields column) rest
