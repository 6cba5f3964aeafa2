-- Two columns united, cell by cell, and a walk over rows that are asked for one by one.
use Rattle.std.proofs.Common.{◌≡◌, ◌<◌, ◌≤◌, ◌+◌, ◌∙◌, ◌++◌, ◌∷◌, [], ℕ, zero, suc, List, Bool, true, false, Some, refl, sym, ap, map, length, arith, eqb, leb, inl, inr}
use Rattle.std.specs.Prelude.{if◌then◌else◌, slice_get}
use Rattle.std.specs.List.{AllByRecursion, list_all}
use Rattle.std.proofs.lemmas.Bool.{and_parts, cases_Bool, cases_lt, eqb-false, le-leb, lt-leb, or_parts}
use Rattle.std.proofs.lemmas.List.{map-append}
use Rattle.hv_value.specs.declared.cell.Cell.{Cell}
use Rattle.hv_value.specs.declared.cell.Cell.TheVariants as cell
use Rattle.hv_value.specs.declared.cell.Kind.{Kind}
use Rattle.hv_value.specs.Cells.{cell_at, is_of_kind}
use Rattle.hv_member.specs.Sets.{IsRising, is_in, next_from}
use Rattle.hv_member.proofs.SearchLemmas.{next_from-some}
use Rattle.hv_column.specs.Column.{ColumnCells}
use Rattle.hv_column.specs.Rows.{cells_across}
use Rattle.hv_part.proofs.RowsThere.{missing-is_of_kind}
use Rattle.hv_made.specs.Steps.{AreUnited, IsUnited, chosen_cell}

-- a row isn't there where the first from it on is another or none
pub next-out : (row : ℕ) (rows : List ℕ) → IsRising rows → (next_from row rows ≡ Some row → ⊥) → is_in row rows ≡ false
next-out row rows rising other =
    elim (cases_Bool (is_in row rows)) [
      | inl there ↦ absurd (other (next_from-some row row rows rising there (omega arith) (λ x inside high. high)))
      | inr out ↦ out
    ]

-- then the first from it on is the first after it
pub next-past : (row : ℕ) (rows : List ℕ) → is_in row rows ≡ false → next_from row rows ≡ next_from (row + 1) rows
next-past row [] out = refl
next-past row (x ∷ rows) out =
    let parts = or_parts (eqb row x) (is_in row rows) out in
    rw (same (eqb-false row x parts.0)) (by (leb (row + 1) x) (next-past row rows parts.1))
  where
    same : (row ≡ x → ⊥) → leb row x ≡ leb (row + 1) x
    same other =
        elim (cases_lt x row) [
          | inl below ↦ lt-leb row x below ∙ sym (lt-leb (row + 1) x (omega arith))
          | inr high ↦
              elim (cases_lt row x) [
                | inl above ↦ le-leb row x high ∙ sym (le-leb (row + 1) x (omega arith))
                | inr low ↦ absurd (other (omega arith))
              ]
        ]

    by : (b : Bool) → next_from row rows ≡ next_from (row + 1) rows → (if b then Some x else next_from row rows) ≡ (if b then Some x else next_from (row + 1) rows)
    by true rest = refl
    by false rest = rest

-- the cell at any place of a column's cells is missing or of its kind
at-is_of_kind : (k : Kind) (cells : List Cell) (place : ℕ) → list_all (is_of_kind k) cells ≡ true → is_of_kind k (cell_at cells place) ≡ true
at-is_of_kind k [] place fit = missing-is_of_kind k
at-is_of_kind k (c ∷ cells) zero fit = (and_parts (is_of_kind k c) (list_all (is_of_kind k) cells) fit).0
at-is_of_kind k (c ∷ cells) (suc place) fit = at-is_of_kind k cells place (and_parts (is_of_kind k c) (list_all (is_of_kind k) cells) fit).1

-- so is each that is chosen of two columns of one kind
pub chosen-is_of_kind : (left right : ColumnCells) (row : ℕ) (is_left is_right : Bool) → list_all (is_of_kind left.kind) left.cells ≡ true
    → list_all (is_of_kind right.kind) right.cells ≡ true → right.kind ≡ left.kind → is_of_kind left.kind (chosen_cell left right row is_left is_right) ≡ true
chosen-is_of_kind left right row true is_right lefts rights same = at-is_of_kind left.kind left.cells row lefts
chosen-is_of_kind left right row false true lefts rights same = rw same at (at-is_of_kind right.kind right.cells row rights)
chosen-is_of_kind left right row false false lefts rights same = missing-is_of_kind left.kind

-- a column of chosen cells is united
pub chosen-united : (left right made : ColumnCells) (held alone : List ℕ) → made.kind ≡ left.kind → length made.cells ≡ length left.cells
    → ((n : ℕ) → n < length left.cells → cell_at made.cells n ≡ chosen_cell left right n (is_in n held) (is_in n alone))
    → length right.cells ≡ length left.cells → IsUnited left right held alone made
chosen-united left right made held alone kind long each same = record {
  kind_is = kind;
  length_is = long;
  held_are = λ n there. elim (cases_lt n (length left.cells)) [
    | inl below ↦ rw there at (each n below)
    | inr past ↦ at-past made.cells n (omega (arith, long)) ∙ sym (at-past left.cells n past)
  ];
  alone_are = λ n out there. elim (cases_lt n (length left.cells)) [
    | inl below ↦ rw (out, there) at (each n below)
    | inr past ↦ at-past made.cells n (omega (arith, long)) ∙ sym (at-past right.cells n (omega (arith, same)))
  ];
}
  where
    at-past : (cells : List Cell) (n : ℕ) → length cells ≤ n → cell_at cells n ≡ cell.Missing
    at-past [] n past = refl
    at-past (c ∷ cells) zero past = absurd (omega (arith, past))
    at-past (c ∷ cells) (suc n) past = at-past cells n (omega (arith, past))

-- columns at one place are of one kind, where all are
pub kinds-at : (cols more : List ColumnCells) (place : ℕ) (one other : ColumnCells)
    → map (λ (c : ColumnCells). c.kind) cols ≡ map (λ (c : ColumnCells). c.kind) more → slice_get cols place ≡ Some one → slice_get more place ≡ Some other
    → one.kind ≡ other.kind
kinds-at [] more place one other same at there = absurd (cc at)
kinds-at (first ∷ cols) [] place one other same at there = absurd (cc there)
kinds-at (first ∷ cols) (second ∷ more) zero one other same at there =
    let a : first ≡ one = cc at in
    let b : second ≡ other = cc there in
    rw (← a, ← b) cc
kinds-at (first ∷ cols) (second ∷ more) (suc place) one other same at there =
    let rest : map (λ (c : ColumnCells). c.kind) cols ≡ map (λ (c : ColumnCells). c.kind) more = cc in
    kinds-at cols more place one other rest at there

-- no columns are united
pub united-none : (held alone : List ℕ) (size : ℕ) → AreUnited [] [] held alone size []
united-none held alone size = record { kinds = refl; lengths = tt; held_are = λ n there. refl; alone_are = λ n out there. refl }

-- one more is
pub united-next : (lefts rights made : List ColumnCells) (held alone : List ℕ) (size : ℕ) (left right one : ColumnCells)
    → AreUnited lefts rights held alone size made → length left.cells ≡ size → IsUnited left right held alone one
    → AreUnited (lefts ++ left ∷ []) (rights ++ right ∷ []) held alone size (made ++ one ∷ [])
united-next lefts rights made held alone size left right one united long next = record {
  kinds = map-append (λ (c : ColumnCells). c.kind) made (one ∷ []) ∙ (rw (united.kinds, next.kind_is) refl)
      ∙ sym (map-append (λ (c : ColumnCells). c.kind) lefts (left ∷ []));
  lengths = lengths made united.lengths;
  held_are = λ n there. across made one n ∙ (rw (united.held_are n there, next.held_are n there) refl) ∙ sym (across lefts left n);
  alone_are = λ n out there. across made one n ∙ (rw (united.alone_are n out there, next.alone_are n out there) refl) ∙ sym (across rights right n);
}
  where
    across : (cols : List ColumnCells) (last : ColumnCells) (n : ℕ)
        → cells_across (cols ++ last ∷ []) n ≡ cells_across cols n ++ cell_at last.cells n ∷ []
    across cols last n = map-append (λ (c : ColumnCells). cell_at c.cells n) cols (last ∷ [])

    lengths : (cs : List ColumnCells) → AllByRecursion (λ (c : ColumnCells). length c.cells ≡ size) cs
        → AllByRecursion (λ (c : ColumnCells). length c.cells ≡ size) (cs ++ one ∷ [])
    lengths [] all = (next.length_is ∙ long, tt)
    lengths (c ∷ cs) all = (all.0, lengths cs all.1)
