-- The columns that are read from a partition's bytes, and the rows that they hold; and a set of rows beside itself.
use Rattle.std.proofs.Common.{◌≡◌, ◌<◌, ◌∙◌, ◌∷◌, [], ℕ, List, Bool, true, false, refl, ap, map, length, get_or, arith}
use Rattle.std.specs.Prelude.{◌&&◌}
use Rattle.std.specs.List.{AllByRecursion}
use Rattle.std.proofs.lemmas.List.{length-map}
use Rattle.hv_value.specs.declared.cell.Kind.{Kind}
use Rattle.hv_value.specs.Rows.{base_rows, cell_in, column_of_records, records_of, rows_of_records}
use Rattle.hv_value.specs.Schema.{Columns, is_schema}
use Rattle.hv_member.specs.Member.{RowSet}
use Rattle.hv_member.specs.Sets.{IsRising, common, is_in, numbers}
use Rattle.hv_member.proofs.MembershipLemmas.{is_in-common}
use Rattle.hv_member.proofs.RisingLemmas.{IsRising-filter, same_rising}
use Rattle.hv_column.specs.Column.{ColumnCells}
use Rattle.hv_column.specs.Rows.{columns_of_records}
use Rattle.hv_column.proofs.RowsAcross.{rows_across-records}
use Rattle.hv_part.specs.Part.{Agree, rows_at}
use Rattle.hv_part.proofs.RowsThere.{some_column}
use Rattle.hv_made.proofs.RowSteps.{rows-numbers}

-- the number of records after the header
abbrev pub row_count : List (List (List ℕ)) → ℕ
row_count [] = 0
row_count (header ∷ rest) = length rest

-- each column of records has a cell for each of these
column-long : (records : List (List (List ℕ))) (column : List ℕ × Kind) → length (column_of_records records column) ≡ row_count records
column-long [] column = refl
column-long (header ∷ rest) column = length-map rest (λ fields. cell_in header fields column)

-- so they agree with the schema
pub agree-records : (columns : Columns) (records : List (List (List ℕ))) → Agree columns (columns_of_records columns records) (row_count records)
agree-records columns records = record { kinds = kinds columns; lengths = lengths columns }
  where
    kinds : (cs : Columns) → map (λ (c : ColumnCells). c.kind) (columns_of_records cs records) ≡ map (λ c. c.1) cs
    kinds [] = refl
    kinds (c ∷ cs) = ap (λ (ks : List Kind). c.1 ∷ ks) (kinds cs)

    lengths : (cs : Columns) → AllByRecursion (λ (c : ColumnCells). length c.cells ≡ row_count records) (columns_of_records cs records)
    lengths [] = tt
    lengths (c ∷ cs) = (column-long records c, lengths cs)

-- the first column says how many there are
pub first-long : (columns : Columns) (records : List (List (List ℕ))) (first : ColumnCells) → is_schema columns ≡ true
    → first ≡ get_or (columns_of_records columns records) 0 first → length first.cells ≡ row_count records
first-long columns records first schema at = by columns (some_column columns schema) at
  where
    by : (cs : Columns) → 0 < length cs → first ≡ get_or (columns_of_records cs records) 0 first → length first.cells ≡ row_count records
    by [] some at = absurd (omega (arith, some))
    by (c ∷ cs) some at = rw at (column-long records c)

-- and all numbers below that have the rows of the bytes
pub rows-bytes : (columns : Columns) (part : ℕ) (bytes : List ℕ)
    → rows_at part (columns_of_records columns (records_of bytes)) (numbers (row_count (records_of bytes))) ≡ base_rows columns part bytes
unfolding base_rows
rows-bytes columns part bytes = by (records_of bytes)
  where
    by : (records : List (List (List ℕ))) → rows_at part (columns_of_records columns records) (numbers (row_count records)) ≡ rows_of_records columns part records
    by [] = refl
    by (header ∷ rest) = rows-numbers part (columns_of_records columns (header ∷ rest)) (length rest) ∙ rows_across-records columns part header rest

-- a rising list has itself in common with itself
pub common-self : (xs : List ℕ) → IsRising xs → common xs xs ≡ xs
common-self xs rising =
    same_rising (common xs xs) xs (IsRising-filter (λ x. is_in x xs) xs rising) rising (λ z. is_in-common z xs xs ∙ twice (is_in z xs))
  where
    twice : (b : Bool) → (b && b) ≡ b
    twice true = refl
    twice false = refl

pub same-member : (m : RowSet) → IsRising m.rows → (record { size = m.size; rows = common m.rows m.rows }) ≡ m
same-member m rising = ap (λ (rs : List ℕ). record { size = m.size; rows = rs }) (common-self m.rows rising)
