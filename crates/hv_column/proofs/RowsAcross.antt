-- Columns that stand side by side: the rows that they hold, and the rows of the records that they were read from.
use Rattle.std.proofs.Common.{◌≡◌, ◌≤◌, ◌<◌, ◌+◌, ◌∷◌, ◌++◌, [], ◌∙◌, ℕ, zero, suc, List, Bool, Some, None, true, false, refl, sym, ap, length, map, get_or, arith, append_assoc, length-append}
use Rattle.std.specs.Prelude.{nat_le, if◌then◌else◌}
use Rattle.std.proofs.lemmas.Bool.{leb-false, leb-true, lt-leb}
use Rattle.std.proofs.lemmas.List.{map-append, length-map}
use Rattle.std.proofs.Math.Seq.{get_or-append_seam}
use Rattle.hv_value.specs.declared.cell.Cell.{Cell}
use Rattle.hv_value.specs.declared.cell.Cell.TheVariants as cell
use Rattle.hv_value.specs.declared.cell.Kind.{Kind}
use Rattle.hv_value.specs.Rows.{cell_in, rows_from, rows_of_records}
use Rattle.hv_value.specs.Schema.{Columns}
use Rattle.hv_value.specs.Table.{onward, first_row, row_from}
use Rattle.hv_column.specs.Column.{ColumnCells}
use Rattle.hv_column.specs.Rows.{cells_across, row_across, rows_across, columns_of_records}

-- a map of a map
map-map : {A B C : Type 0} (f : B → C) (g : A → B) (xs : List A) → map f (map g xs) ≡ map (λ x. f (g x)) xs
map-map f g [] = refl
map-map f g (x ∷ xs) = ap (λ (rest : List _). f (g x) ∷ rest) (map-map f g xs)

-- two functions with the same values
map-same : {A B : Type 0} (f g : A → B) → ((x : A) → f x ≡ g x) → (xs : List A) → map f xs ≡ map g xs
map-same f g same [] = refl
map-same f g same (x ∷ xs) = rw (same x, map-same f g same xs) refl

-- the columns of the records after a header
abbrev under_header : Columns → List (List ℕ) → List (List (List ℕ)) → List ColumnCells
under_header columns header records = map (λ column. record { kind = column.1; cells = map (λ fields. cell_in header fields column) records }) columns

-- the cells side by side after some records are those of the next one
cells_across-next : (columns : Columns) (header : List (List ℕ)) (before : List (List (List ℕ))) (fields : List (List ℕ)) (after : List (List (List ℕ)))
    → cells_across (under_header columns header (before ++ fields ∷ after)) (length before) ≡ map (cell_in header fields) columns
cells_across-next columns header before fields after =
    map-map _ _ columns ∙ map-same _ (cell_in header fields) here columns
  where
    here : (column : List ℕ × Kind) → get_or (map (λ f. cell_in header f column) (before ++ fields ∷ after)) (length before) cell.Missing ≡ cell_in header fields column
    here column =
        let reads : List (List ℕ) → Cell = λ f. cell_in header f column in
        let size : length before ≡ length (map reads before) = sym (length-map before reads) in
        rw (map-append reads before (fields ∷ after), size) (get_or-append_seam (map reads before) (reads fields) (map reads after) cell.Missing)

-- the rows of records, from a number on, are those that the columns hold from there
rows_across-from : (columns : Columns) (part : ℕ) (header : List (List ℕ)) (before records : List (List (List ℕ)))
    → rows_across part (under_header columns header (before ++ records)) (length before) (length records) ≡ rows_from columns part header (length before) records
rows_across-from columns part header before [] = refl
rows_across-from columns part header before (fields ∷ records) =
    let more = rows_across-from columns part header (before ++ fields ∷ []) records in
    let whole : (before ++ fields ∷ []) ++ records ≡ before ++ fields ∷ records = append_assoc before (fields ∷ []) records in
    let size : length (before ++ fields ∷ []) ≡ length before + 1 = length-append before (fields ∷ []) in
    let rest : rows_across part (under_header columns header (before ++ fields ∷ records)) (length before + 1) (length records)
    ≡ rows_from columns part header (length before + 1) records = rw (whole, size) at more in
    rw (cells_across-next columns header before fields records, rest) refl

-- the rows of records are those that their columns hold side by side
pub rows_across-records : (columns : Columns) (part : ℕ) (header : List (List ℕ)) (records : List (List (List ℕ)))
    → rows_across part (columns_of_records columns (header ∷ records)) 0 (length records) ≡ rows_of_records columns part (header ∷ records)
rows_across-records columns part header records = rows_across-from columns part header [] records

-- the first row from a number on, where the columns have that row
pub row_from-there : (part : ℕ) (columns : List ColumnCells) (number count from : ℕ) → number ≤ from → from < number + count
    → row_from from (rows_across part columns number count) ≡ Some (row_across part columns from)
row_from-there part columns number zero from low high = absurd (omega (arith, low, high))
row_from-there part columns number (suc count) from low high =
    by (nat_le from number) refl (λ above. row_from-there part columns (number + 1) count from (omega (arith, above)) (omega (arith, high)))
  where
    by : (b : Bool) → nat_le from number ≡ b
        → (number < from → row_from from (rows_across part columns (number + 1) count) ≡ Some (row_across part columns from))
        → first_row (if b then row_across part columns number ∷ rows_across part columns (number + 1) count
        else onward from (rows_across part columns (number + 1) count)) ≡ Some (row_across part columns from)
    by true e more = let same : number ≡ from = omega (arith, leb-true from number e, low) in rw same refl
    by false e more = more (leb-false from number e)

-- past the last row there is none
pub row_from-past : (part : ℕ) (columns : List ColumnCells) (number count from : ℕ) → number + count ≤ from
    → row_from from (rows_across part columns number count) ≡ None
row_from-past part columns number zero from past = refl
row_from-past part columns number (suc count) from past =
    let above : number < from = omega (arith, past) in
    rw (lt-leb from number above) (row_from-past part columns (number + 1) count from (omega (arith, past)))
