-- The rows of a partition's bytes: how many there are at most, and that they make a table.
use Rattle.std.proofs.Common.{◌≡◌, ◌≤◌, ◌+◌, ◌^◌, ◌∷◌, [], ℕ, List, Bool, Option, Some, None, true, false, refl, length, map, arith}
use Rattle.std.specs.Prelude.{if◌then◌else◌, option_and_then, position, bytes_eq}
use Rattle.std.specs.Str.{is_utf8}
use Rattle.csv.specs.Reading.{default_config, is_bom, strip_bom}
use Rattle.csv.specs.Records.{field_at}
use Rattle.hv_value.proofs.RecordsOfBytes.{few_records}
use Rattle.hv_value.proofs.DayLemmas.{found-is_day_number}
use Rattle.hv_value.specs.Cells.{is_of_kind}
use Rattle.hv_value.specs.Days.{day_of_text}
use Rattle.hv_value.specs.Number.{int_of_text}
use Rattle.hv_value.specs.Rows.{base_rows, int_cell, date_cell, cell_in, cell_of_found, records_of, rows_from, rows_of_records}
use Rattle.hv_value.specs.Schema.{Columns}
use Rattle.hv_value.specs.Table.{AreRowsFrom, IsTable, have_kinds}
use Rattle.hv_value.specs.declared.cell.Cell.TheVariants as cell
use Rattle.hv_value.specs.declared.cell.Kind.{Kind}
use Rattle.hv_value.specs.declared.cell.Kind.TheVariants as kind

-- without its byte order mark a text is no longer
length-strip_bom : (bytes : List ℕ) → length (strip_bom bytes) ≤ length bytes
unfolding strip_bom
length-strip_bom [] = omega arith
length-strip_bom (a ∷ []) = omega arith
length-strip_bom (a ∷ b ∷ []) = omega arith
length-strip_bom (a ∷ b ∷ c ∷ rest) = by (is_bom a b c)
  where
    by : (t : Bool) → length (if t then rest else a ∷ b ∷ c ∷ rest) ≤ length (a ∷ b ∷ c ∷ rest)
    by true = omega arith
    by false = omega arith

-- a partition has no more records than bytes
pub few_records_of : (bytes : List ℕ) → length (records_of bytes) ≤ length bytes
few_records_of bytes = omega (arith, few_records default_config (strip_bom bytes), length-strip_bom bytes)

-- what an absent or a present field reads as is of the column's kind
pub found-is_of_kind : (k : Kind) (found : Option (List ℕ)) → is_of_kind k (cell_of_found k found) ≡ true
found-is_of_kind k None = refl
found-is_of_kind kind.Int (Some field) = by (int_of_text field)
  where
    by : (n : Option _) → is_of_kind kind.Int (int_cell n) ≡ true
    by None = refl
    by (Some n) = refl
found-is_of_kind kind.Date (Some field) = by (day_of_text field) refl
  where
    by : (day : Option _) → day_of_text field ≡ day → is_of_kind kind.Date (date_cell day) ≡ true
    by None e = refl
    by (Some day) e = found-is_day_number field day e
found-is_of_kind kind.Text (Some field) = by (is_utf8 field)
  where
    by : (valid : Bool) → is_of_kind kind.Text (if valid then cell.Text field else cell.Missing) ≡ true
    by true = refl
    by false = refl

-- a record's cells are of the columns' kinds
pub record-have_kinds : (columns : Columns) (header fields : List (List ℕ)) → have_kinds columns (map (cell_in header fields) columns) ≡ true
record-have_kinds [] header fields = refl
record-have_kinds (column ∷ columns) header fields =
    rw (found-is_of_kind column.1 (option_and_then (field_at fields) (position (bytes_eq column.0) header))) (record-have_kinds columns header fields)

-- rows that are numbered from a number, few enough, are rows of a table
rows_from-are : (columns : Columns) (part : ℕ) (header : List (List ℕ)) (number : ℕ) (records : List (List (List ℕ)))
    → number + length records ≤ 2 ^ 26 → AreRowsFrom columns part number (rows_from columns part header number records)
rows_from-are columns part header number [] few = tt
rows_from-are columns part header number (fields ∷ records) few = (
  record { tagged = refl; at_least = omega arith; below = omega (arith, few); kinds = record-have_kinds columns header fields },
  rows_from-are columns part header (number + 1) records (omega (arith, few)),
)

-- the rows of few records make a table
pub rows_of_records-IsTable : (columns : Columns) (part : ℕ) (records : List (List (List ℕ))) → length records ≤ 2 ^ 26
    → IsTable columns part (rows_of_records columns part records)
rows_of_records-IsTable columns part [] few = tt
rows_of_records-IsTable columns part (header ∷ records) few = rows_from-are columns part header 0 records (omega (arith, few))

-- the rows of a partition's bytes make a table
pub base_rows-IsTable : (columns : Columns) (part : ℕ) (bytes : List ℕ) → length bytes ≤ 2 ^ 26 → IsTable columns part (base_rows columns part bytes)
unfolding base_rows
base_rows-IsTable columns part bytes few = rows_of_records-IsTable columns part (records_of bytes) (omega (arith, few_records_of bytes, few))
