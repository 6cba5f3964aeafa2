-- The rows of a partition's bytes, held by the columns that were read from them.
use Rattle.std.proofs.Common.{◌≡◌, ◌≤◌, ◌<◌, ◌^◌, ◌∷◌, [], ◌∙◌, ℕ, zero, suc, List, Some, None, true, refl, sym, ap, inl, inr, length, get_or, arith}
use Rattle.std.specs.Prelude.{nat_lt, nat_le, option_map, slice_get}
use Rattle.std.specs.List.{list_all}
use Rattle.std.proofs.lemmas.Bool.{and_parts, cases_lt, ltb-true}
use Rattle.std.proofs.lemmas.List.{length-map}
use Rattle.std.proofs.lemmas.Option.{get_or_from_slice_get, none-some, same_Some}
use Rattle.hv_value.specs.declared.cell.Cell.{Cell}
use Rattle.hv_value.specs.declared.cell.Cell.TheVariants as cell
use Rattle.hv_value.specs.Cells.{cell_at}
use Rattle.hv_value.specs.Rows.{Row, base_rows, cell_in, column_of_records, records_of, rows_of_records}
use Rattle.hv_value.specs.Schema.{Columns, has_fit_name, have_own_names, is_schema}
use Rattle.hv_value.specs.Table.{row_from}
use Rattle.hv_value.specs.declared.schema.TheConstants.{MAX_COLUMNS}
use Rattle.hv_value.proofs.RowsOfBytes.{few_records_of, rows_of_records-IsTable}
use Rattle.hv_column.specs.Column.{ColumnCells}
use Rattle.hv_column.specs.Rows.{cells_across, columns_of_records, row_across, rows_across}
use Rattle.hv_column.proofs.RowsAcross.{row_from-past, row_from-there, rows_across-records}
use Rattle.hv_csv.specs.Base.{HaveLength, HoldTable, row_count}

-- a schema has a column
some_column : (columns : Columns) → is_schema columns ≡ true → 0 < length columns
some_column columns schema =
    let parts = and_parts _ (have_own_names columns) schema in
    let sized = and_parts _ (list_all has_fit_name columns) parts.0 in
    let both = and_parts (nat_lt 0 (length columns)) (nat_le (length columns) MAX_COLUMNS) sized.0 in
    ltb-true 0 (length columns) both.0

-- each column of records has a cell for each record after the header
records-long : (columns : Columns) (header : List (List ℕ)) (records : List (List (List ℕ)))
    → HaveLength (length records) (columns_of_records columns (header ∷ records))
records-long [] header records = tt
records-long (column ∷ columns) header records = (length-map records (λ fields. cell_in header fields column), records-long columns header records)

empty-long : (columns : Columns) → HaveLength 0 (columns_of_records columns [])
empty-long [] = tt
empty-long (column ∷ columns) = (refl, empty-long columns)

-- the first column says how many
count-records : (columns : Columns) (header : List (List ℕ)) (records : List (List (List ℕ))) → 0 < length columns
    → row_count (columns_of_records columns (header ∷ records)) ≡ length records
count-records [] header records some = absurd (omega (arith, some))
count-records (column ∷ columns) header records some = length-map records (λ fields. cell_in header fields column)

count-empty : (columns : Columns) → row_count (columns_of_records columns []) ≡ 0
count-empty [] = refl
count-empty (column ∷ columns) = refl

-- the columns of records hold the rows of the records
columns-rows : (columns : Columns) (part : ℕ) (records : List (List (List ℕ))) → 0 < length columns
    → rows_across part (columns_of_records columns records) 0 (row_count (columns_of_records columns records)) ≡ rows_of_records columns part records
columns-rows columns part [] some = rw (count-empty columns) refl
columns-rows columns part (header ∷ records) some = rw (count-records columns header records some) (rows_across-records columns part header records)

columns-long : (columns : Columns) (records : List (List (List ℕ))) → 0 < length columns
    → HaveLength (row_count (columns_of_records columns records)) (columns_of_records columns records)
columns-long columns [] some = rw (count-empty columns) (empty-long columns)
columns-long columns (header ∷ records) some = rw (count-records columns header records some) (records-long columns header records)

-- the columns that were read from bytes hold the rows of the bytes
pub base-rows : (columns : Columns) (part : ℕ) (bytes : List ℕ) (cols : List ColumnCells) (count : ℕ) → is_schema columns ≡ true
    → cols ≡ columns_of_records columns (records_of bytes) → count ≡ row_count cols → rows_across part cols 0 count ≡ base_rows columns part bytes
unfolding base_rows
base-rows columns part bytes cols count schema read counted =
    rw (counted, read) (columns-rows columns part (records_of bytes) (some_column columns schema))

-- which make a table
pub base-holds : (columns : Columns) (part : ℕ) (bytes : List ℕ) (cols : List ColumnCells) (count : ℕ) → is_schema columns ≡ true
    → length bytes < 2 ^ 26 → cols ≡ columns_of_records columns (records_of bytes) → count ≡ row_count cols → HoldTable columns part cols count
base-holds columns part bytes cols count schema few read counted =
    let some = some_column columns schema in
    let records = records_of bytes in
    let most = few_records_of bytes in
    rw (counted, read) (record {
      table = rw (columns-rows columns part records some) (rows_of_records-IsTable columns part records (omega (arith, most, few)));
      wide = length-map columns (λ column. record { kind = column.1; cells = column_of_records records column });
      long = columns-long columns records some;
    })

-- the next row is that of the number itself, where there is one
pub next-there : (part : ℕ) (cols : List ColumnCells) (count from : ℕ) → from < count
    → Some from ≡ option_map (λ row. row.number) (row_from from (rows_across part cols 0 count))
next-there part cols count from below = rw (row_from-there part cols 0 count from (omega arith) (omega (arith, below))) refl

pub next-past : (part : ℕ) (cols : List ColumnCells) (count from : ℕ) → count ≤ from
    → None ≡ option_map (λ row. row.number) (row_from from (rows_across part cols 0 count))
next-past part cols count from past = rw (row_from-past part cols 0 count from (omega (arith, past))) refl

-- a row that is there is below the number of rows
pub there-below : (part : ℕ) (cols : List ColumnCells) (count row : ℕ)
    → option_map (λ found. found.number) (row_from row (rows_across part cols 0 count)) ≡ Some row → row < count
there-below part cols count row there =
    elim (cases_lt row count) [
      | inl below ↦ below
      | inr past ↦ absurd (none-some row (next-past part cols count row past ∙ there))
    ]

-- a column among those of one length has it
pub long-at : (count : ℕ) (cols : List ColumnCells) (col : ℕ) (column : ColumnCells) → HaveLength count cols → col < length cols
    → length (get_or cols col column).cells ≡ count
long-at count [] col column long within = absurd (omega (arith, within))
long-at count (first ∷ cols) zero column long within = long.0
long-at count (first ∷ cols) (suc col) column long within = long-at count cols col column long.1 (omega (arith, within))

-- the cell of a row at a column's place is the column's at the row's number
cells_across-at : (cols : List ColumnCells) (row col : ℕ) (column : ColumnCells) → col < length cols
    → cell_at (cells_across cols row) col ≡ cell_at (get_or cols col column).cells row
cells_across-at [] row col column within = absurd (omega (arith, within))
cells_across-at (first ∷ cols) row zero column within = refl
cells_across-at (first ∷ cols) row (suc col) column within = cells_across-at cols row col column (omega (arith, within))

-- the cell that is read of a row that is there
pub cell-there : (part : ℕ) (cols : List ColumnCells) (count row col : ℕ) (column : ColumnCells) (read : Cell) (found : Row)
    → row < count → col < length cols → column ≡ get_or cols col column → slice_get column.cells row ≡ Some read
    → row_from row (rows_across part cols 0 count) ≡ Some found → read ≡ cell_at found.cells col
cell-there part cols count row col column read found below within at_col at_row there =
    let same : row_across part cols row ≡ found = same_Some _ found (sym (row_from-there part cols 0 count row (omega arith) (omega (arith, below))) ∙ there) in
    let here : cell_at column.cells row ≡ read = get_or_from_slice_get column.cells row read cell.Missing at_row in
    let kept : cell_at column.cells row ≡ cell_at (get_or cols col column).cells row = ap (λ (c : ColumnCells). cell_at c.cells row) at_col in
    sym here ∙ kept ∙ sym (cells_across-at cols row col column within) ∙ ap (λ (r : Row). cell_at r.cells col) same
