-- The value of an expression that can be used is missing or of the expression's kind.
use Rattle.std.proofs.Common.{◌≡◌, ℕ, zero, suc, true, false, List, [], ◌∷◌, slice_get, Option, Some, None, option_map, Ok, ℤ, ◌+ℤ◌, ◌*ℤ◌, pos, if◌then◌else◌, refl, ap, subst}
use Rattle.std.specs.Option.{option_and_then}
use Rattle.std.proofs.lemmas.Bool.{and_parts}
use Rattle.hv_value.specs.declared.cell.Kind.{Kind}
use Rattle.hv_value.specs.declared.cell.Kind.TheVariants as kind
use Rattle.hv_value.specs.declared.cell.Cell.{Cell}
use Rattle.hv_value.specs.declared.cell.Cell.TheVariants as cell
use Rattle.hv_value.specs.Cells.{is_of_kind, cell_at}
use Rattle.hv_value.specs.Days.{is_day_number}
use Rattle.hv_value.specs.Rows.{int_cell}
use Rattle.hv_value.specs.Number.{fitting_i64}
use Rattle.hv_value.specs.Schema.{Columns, column_place}
use Rattle.hv_value.specs.Table.{have_kinds}
use Rattle.hv_expr.specs.declared.error.ExprErr.{ExprErr}
use Rattle.hv_expr.specs.declared.expr.Expr.{Expr, out-Expr, fold_out-Expr, map-Expr}
use Rattle.hv_expr.specs.declared.expr.Expr.TheOpen.{Expr-F}
use Rattle.hv_expr.specs.Checks.{checked_expr, expr_fault, kind_of, kind_of_column, kind_unless, node_kind}
use Rattle.hv_value.specs.Civil.{year_of, month_of, day_of}
use Rattle.hv_expr.specs.Values.{cell_at_place, cell_named, day_part, join_cells, length_cell, linear_cell, node_val, val}

-- a cell at a column's place is of the column's kind
kinds-at : (columns : Columns) (cells : List Cell) (place : ℕ) (k : Kind) → have_kinds columns cells ≡ true
    → option_map (λ column. column.1) (slice_get columns place) ≡ Some k → is_of_kind k (cell_at cells place) ≡ true
kinds-at [] cells place k kinds found = absurd (cc found)
kinds-at (column ∷ columns) [] place k kinds found = absurd (cc kinds)
kinds-at (column ∷ columns) (c ∷ cells) zero k kinds found =
    let same : column.1 ≡ k = cc found in
    subst (λ w. is_of_kind w c ≡ true) same (and_parts (is_of_kind column.1 c) (have_kinds columns cells) kinds).0
kinds-at (column ∷ columns) (c ∷ cells) (suc place) k kinds found =
    kinds-at columns cells place k (and_parts (is_of_kind column.1 c) (have_kinds columns cells) kinds).1 found

-- and so is that of a name
named : (columns : Columns) (cells : List Cell) (name : List ℕ) (k : Kind) → have_kinds columns cells ≡ true
    → kind_of_column columns name ≡ Some k → is_of_kind k (cell_named columns cells name) ≡ true
named columns cells name k kinds = by (column_place name columns)
  where
    by : (found : Option ℕ) → option_and_then (λ place. option_map (λ column. column.1) (slice_get columns place)) found ≡ Some k
        → is_of_kind k (cell_at_place cells found) ≡ true
    by None e = absurd (cc e)
    by (Some place) e = kinds-at columns cells place k kinds e

-- whole numbers, or missing
is_int : (o : Option ℤ) → is_of_kind kind.Int (int_cell o) ≡ true
is_int None = refl
is_int (Some n) = refl

part-is_int : (number : ℤ → ℤ) (c : Cell) → is_of_kind kind.Int (day_part number c) ≡ true
part-is_int number cell.Missing = refl
part-is_int number (cell.Int n) = refl
part-is_int number (cell.Date day) =
    elim (is_day_number day) as (λ b. is_of_kind kind.Int (if b then cell.Int (number day) else cell.Missing) ≡ true) [ true ↦ refl | false ↦ refl ]
part-is_int number (cell.Text text) = refl

length-is_int : (c : Cell) → is_of_kind kind.Int (length_cell c) ≡ true
length-is_int cell.Missing = refl
length-is_int (cell.Int n) = refl
length-is_int (cell.Date day) = refl
length-is_int (cell.Text text) = refl

linear-is_int : (a b : ℤ) (c : Cell) → is_of_kind kind.Int (linear_cell a b c) ≡ true
linear-is_int a b cell.Missing = refl
linear-is_int a b (cell.Int x) = is_int (fitting_i64 (a *ℤ x +ℤ b))
linear-is_int a b (cell.Date day) = refl
linear-is_int a b (cell.Text text) = refl

-- texts, or missing
join-is_text : (left : Cell) (between : List ℕ) (right : Cell) → is_of_kind kind.Text (join_cells left between right) ≡ true
join-is_text cell.Missing between right = refl
join-is_text (cell.Int n) between right = refl
join-is_text (cell.Date day) between right = refl
join-is_text (cell.Text left) between cell.Missing = refl
join-is_text (cell.Text left) between (cell.Int n) = refl
join-is_text (cell.Text left) between (cell.Date day) = refl
join-is_text (cell.Text left) between (cell.Text right) = refl

-- a node's value, whatever its operands' values are
module _ (columns : Columns) (cells : List Cell) (kinds : have_kinds columns cells ≡ true) (k : Kind) where
  of_kind : (w : Kind) (c : Cell) → Some w ≡ Some k → is_of_kind w c ≡ true → is_of_kind k c ≡ true
  of_kind w c e is = let same : w ≡ k = cc e in subst (λ v. is_of_kind v c ≡ true) same is

  node : (at : Expr-F Expr) → node_kind columns at ≡ Some k → is_of_kind k (node_val columns cells (map-Expr Expr Cell (val columns cells) at)) ≡ true
  node (Expr-F.Col name) e = named columns cells name k kinds e
  node (Expr-F.Year of) e = of_kind kind.Int _ e (part-is_int (λ day. pos (year_of day)) (val columns cells of))
  node (Expr-F.Month of) e = of_kind kind.Int _ e (part-is_int (λ day. pos (month_of day)) (val columns cells of))
  node (Expr-F.Day of) e = of_kind kind.Int _ e (part-is_int day_of (val columns cells of))
  node (Expr-F.Length of) e = of_kind kind.Int _ e (length-is_int (val columns cells of))
  node (Expr-F.Linear a b of) e = of_kind kind.Int _ e (linear-is_int a b (val columns cells of))
  node (Expr-F.Join left between right) e = of_kind kind.Text _ e (join-is_text (val columns cells left) between (val columns cells right))

  checked-kind : (fault : Option ExprErr) (own : Option Kind) → kind_unless fault own ≡ Ok k → own ≡ Some k
  checked-kind (Some x) own e = absurd (cc e)
  checked-kind None None e = absurd (cc e)
  checked-kind None (Some w) e = ap Some (let same : w ≡ k = cc e in same)

  pub val-is_of_kind : (e : Expr) → checked_expr columns e ≡ Ok k → is_of_kind k (val columns cells e) ≡ true
  unfolding val
  val-is_of_kind e checked =
      rw (fold_out-Expr Cell (node_val columns cells) e) (node (out-Expr e) (checked-kind (expr_fault columns e) (kind_of columns e) checked))
