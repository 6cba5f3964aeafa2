-- What a walk over a table's rows by `next_row` finds: the rows from a number on, the first of them, and the kinds of its cells.
use Rattle.std.proofs.Common.{◌≡◌, ◌≤◌, ◌<◌, ◌+◌, ◌^◌, ◌∷◌, [], ℕ, zero, suc, List, Bool, Option, Some, None, true, false, refl, subst, length, arith}
use Rattle.std.specs.Prelude.{nat_le, if◌then◌else◌, option_map, slice_get, ◌&&◌}
use Rattle.std.specs.List.{AllByRecursion}
use Rattle.std.proofs.lemmas.Bool.{leb-true, leb-false, le-leb, lt-leb}
use Rattle.std.proofs.lemmas.Option.{slice_get_within}
use Rattle.hv_value.specs.declared.cell.Cell.{Cell}
use Rattle.hv_value.specs.declared.cell.Kind.{Kind}
use Rattle.hv_value.specs.Cells.{cell_at, is_of_kind}
use Rattle.hv_value.specs.Rows.{Row}
use Rattle.hv_value.specs.Schema.{Columns}
use Rattle.hv_value.specs.Table.{AreRowsFrom, IsRowOf, IsTable, first_row, have_kinds, onward, row_from}

-- rows whose numbers begin at a number or above it are all from there on
pub onward-all : (columns : Columns) (part from : ℕ) (rows : List Row) → AreRowsFrom columns part from rows → onward from rows ≡ rows
onward-all columns part from [] h = refl
onward-all columns part from (row ∷ rows) h = rw (le-leb from row.number h.0.at_least) refl

-- the same rows are of a table that begins lower
pub AreRowsFrom-lower : (columns : Columns) (part from lower : ℕ) (rows : List Row)
    → lower ≤ from → AreRowsFrom columns part from rows → AreRowsFrom columns part lower rows
AreRowsFrom-lower columns part from lower [] le h = tt
AreRowsFrom-lower columns part from lower (row ∷ rows) le h =
    (record { tagged = h.0.tagged; at_least = omega (arith, h.0.at_least); below = h.0.below; kinds = h.0.kinds }, h.1)

-- the row is the first from a number on: what it is, that it is first from its own number on, and what follows it
pub record IsNext (columns : Columns) (part from : ℕ) (rows : List Row) (found : Row) : Type 0 where
  pub row : IsRowOf columns part from found
  pub again : row_from found.number rows ≡ Some found
  pub rest : onward from rows ≡ found ∷ onward (found.number + 1) rows

-- the first row from a number on is that
pub is_next : (columns : Columns) (part least from : ℕ) (rows : List Row) (found : Row)
    → AreRowsFrom columns part least rows → row_from from rows ≡ Some found → IsNext columns part from rows found
is_next columns part least from [] found h e = absurd (cc e)
is_next columns part least from (row ∷ rows) found h e =
    by (nat_le from row.number) refl e (is_next columns part (row.number + 1) from rows found h.1)
  where
    by : (b : Bool) → nat_le from row.number ≡ b → first_row (if b then row ∷ rows else onward from rows) ≡ Some found
        → (row_from from rows ≡ Some found → IsNext columns part from rows found) → IsNext columns part from (row ∷ rows) found
    by true le e more = subst (λ r. IsNext columns part from (row ∷ rows) r) (let same : row ≡ found = cc e in same) here
      where
        here : IsNext columns part from (row ∷ rows) row
        here = record {
          row = record { tagged = h.0.tagged; at_least = leb-true from row.number le; below = h.0.below; kinds = h.0.kinds };
          again = rw (le-leb row.number row.number (omega arith)) refl;
          rest = rw (le, lt-leb (row.number + 1) row.number (omega arith), onward-all columns part (row.number + 1) rows h.1) refl;
        }
    by false gt e more =
        let next = more e in
        let low : row.number < from = leb-false from row.number gt in
        let up : from ≤ found.number = next.row.at_least in
        record {
          row = next.row;
          again = rw (lt-leb found.number row.number (omega arith)) next.again;
          rest = rw (gt, lt-leb (found.number + 1) row.number (omega arith)) next.rest;
        }

-- where there is no first row, there is none from there on
pub onward-none : (from : ℕ) (rows : List Row) → row_from from rows ≡ None → onward from rows ≡ []
onward-none from rows e = by (onward from rows) e
  where
    by : (after : List Row) → first_row after ≡ None → after ≡ []
    by [] e = refl
    by (row ∷ rows) e = absurd (cc e)

-- a row number that `next_row` gives is that of a first row
pub row_found : (o : Option Row) (n : ℕ) → option_map (λ (row : Row). row.number) o ≡ Some n
    → (found : Row) × (o ≡ Some found) × (found.number ≡ n)
row_found None n e = absurd (cc e)
row_found (Some row) n e = (row, refl, cc e)

-- the row that is found has the number
pub found_number : (o : Option Row) (n : ℕ) (found : Row) → option_map (λ row. row.number) o ≡ Some n → o ≡ Some found → found.number ≡ n
found_number None n found e is = absurd (cc)
found_number (Some row) n found e is = let same : row ≡ found = cc is in subst (λ r. r.number ≡ n) same (cc e)

-- rows whose numbers rise from a number on below 2^26 are no more than the numbers
pub few_rows_from : (columns : Columns) (part from : ℕ) (rows : List Row) → from ≤ 2 ^ 26 → AreRowsFrom columns part from rows → length rows + from ≤ 2 ^ 26
few_rows_from columns part from [] le h = omega arith
few_rows_from columns part from (row ∷ rows) le h =
    let up : from ≤ row.number = h.0.at_least in
    let top : row.number < 2 ^ 26 = h.0.below in
    omega (arith, few_rows_from columns part (row.number + 1) rows (omega arith) h.1)

-- a table has at most 2^26 rows
pub few_rows : (columns : Columns) (part : ℕ) (rows : List Row) → IsTable columns part rows → length rows ≤ 2 ^ 26
few_rows columns part rows h = omega (arith, few_rows_from columns part 0 rows (omega arith) h)

-- a column's place that is found is one of the columns
pub place_there : (columns : Columns) (place : ℕ) (kind : Kind)
    → option_map (λ column. column.1) (slice_get columns place) ≡ Some kind → place < length columns
place_there columns place kind e = by (slice_get columns place) refl e
  where
    by : (o : Option (List ℕ × Kind)) → slice_get columns place ≡ o → option_map (λ column. column.1) o ≡ Some kind → place < length columns
    by None is e = absurd (cc e)
    by (Some column) is e = slice_get_within columns place column is

-- both of two tests that hold together
both : (a b : Bool) → (a && b) ≡ true → (a ≡ true) × (b ≡ true)
both true b e = (refl, e)
both false b e = absurd (cc e)

-- the cell at a column's place is missing or of the column's kind
pub kind_of_cell : (columns : Columns) (cells : List Cell) (place : ℕ) (kind : Kind) → have_kinds columns cells ≡ true
    → option_map (λ column. column.1) (slice_get columns place) ≡ Some kind → is_of_kind kind (cell_at cells place) ≡ true
kind_of_cell [] cells place kind h e = absurd (cc e)
kind_of_cell (column ∷ columns) [] place kind h e = absurd (cc h)
kind_of_cell (column ∷ columns) (c ∷ cells) zero kind h e =
    let same : column.1 ≡ kind = cc e in
    rw (← same) (both (is_of_kind column.1 c) (have_kinds columns cells) h).0
kind_of_cell (column ∷ columns) (c ∷ cells) (suc place) kind h e =
    kind_of_cell columns cells place kind (both (is_of_kind column.1 c) (have_kinds columns cells) h).1 e

-- each row of a table is of its partition
pub rows_tagged : (columns : Columns) (part from : ℕ) (rows : List Row) → AreRowsFrom columns part from rows → AllByRecursion (λ row. row.part ≡ part) rows
rows_tagged columns part from [] h = tt
rows_tagged columns part from (row ∷ rows) h = (h.0.tagged, rows_tagged columns part (row.number + 1) rows h.1)
