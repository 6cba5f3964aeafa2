-- A lineage's JSON nests at most 97 deep, fewer than serde_json's reading allows.
use Rattle.std.proofs.Common.{◌≡◌, ◌+◌, ◌*◌, ◌≤◌, ℕ, ℤ, max, Bool, true, false, if◌then◌else◌, List, [], ◌∷◌, map, None, refl, sym, ap, subst, arith}
use Rattle.serde_json.specs.Data.{Data, number, string, depth, items_depth}
use Rattle.serde_json.specs.Find.{of_integer}
use Rattle.serde_json.specs.Read.{max_depth}
use Rattle.serde_json.specs.View.{items_of}
use Rattle.hv_value.specs.Civil.{text_of_day}
use Rattle.hv_value.specs.Days.{is_day_number}
use Rattle.hv_value.specs.Schema.{Columns}
use Rattle.hv_value.specs.declared.cell.Cell.{Cell}
use Rattle.hv_value.specs.declared.cell.Cell.TheVariants as cell
use Rattle.hv_expr.specs.declared.error.TheConstants.{MAX_DEPTH}
use Rattle.hv_expr.specs.declared.expr.Expr.{Expr, ind-Expr, map-Expr, roll-Expr}
use Rattle.hv_expr.specs.declared.expr.Expr.TheOpen.{Expr-F}
use Rattle.hv_expr.specs.declared.expr.Expr.TheVariants as expr
use Rattle.hv_expr.specs.declared.pred.Pred.{Pred, ind-Pred, map-Pred, roll-Pred}
use Rattle.hv_expr.specs.declared.pred.Pred.TheOpen.{Pred-F}
use Rattle.hv_expr.specs.declared.pred.Pred.TheVariants as pred
use Rattle.hv_expr.specs.Checks.{expr_fault, expr_faults, pred_fault, pred_faults}
use Rattle.hv_expr.specs.Sizes.{expr_depth, expr_measure, greatest, pred_depth, pred_measure}
use Rattle.hv_expr.proofs.Folds.{fold-Col, fold-Year, fold-Month, fold-Day, fold-Length, fold-Linear, fold-Join, fold-Cmp, fold-Missing, fold-Match, fold-And, fold-Or, fold-Not}
use Rattle.hv_lineage.specs.Bases.{base_columns}
use Rattle.hv_lineage.specs.Lineages.{IsLineage, TermOver}
use Rattle.hv_lineage.specs.Made.{columns_of}
use Rattle.hv_lineage.specs.Sizes.{term_depth}
use Rattle.hv_lineage.specs.declared.base.Base.{Base}
use Rattle.hv_lineage.specs.declared.base.Base.TheVariants as base
use Rattle.hv_lineage.specs.declared.term.Term.{Term, ind-Term, map-Term, roll-Term}
use Rattle.hv_lineage.specs.declared.term.Term.TheOpen.{Term-F}
use Rattle.hv_lineage.specs.declared.term.Term.TheVariants as term
use Rattle.hv_lineage.proofs.TermNodes.{AreFit, depth-Base, depth-Combine, depth-Derive, depth-Filter, depth-Project, depth-Sample, fold-Base, fold-Combine, fold-Derive, fold-Filter, fold-Project, fold-Sample, here-Derive, here-Filter, inner-Derive, inner-Filter, inner-Project, inner-Sample, inner-left, inner-right}
use Rattle.hv_reply.specs.Lineages.{base_data, column_data, expr_data, expr_node_data, lineage_data, pred_data, pred_node_data, term_data, term_node_data}
use Rattle.hv_reply.specs.Values.{cell_data, day_data}
use Rattle.hv_reply.proofs.ExprBack.{not_deep}

-- ---- expressions

abbrev DeepExpr : Expr → Type 0
DeepExpr e = depth (expr_data e) ≤ expr_depth e

expr_layer : (y : Expr-F ((e : Expr) × DeepExpr e)) → DeepExpr (roll-Expr (map-Expr ((e : Expr) × DeepExpr e) Expr (λ e. e.0) y))
unfolding expr_data expr_depth
expr_layer (Expr-F.Col name) = subst DeepExpr (sym (expr.rolls-Col name)) (omega (arith, ap depth (fold-Col Data expr_node_data name), fold-Col ℕ (expr_measure max) name))
expr_layer (Expr-F.Year of) = subst DeepExpr (sym (expr.rolls-Year of.0)) (omega (arith, ap depth (fold-Year Data expr_node_data of.0), fold-Year ℕ (expr_measure max) of.0, of.1))
expr_layer (Expr-F.Month of) = subst DeepExpr (sym (expr.rolls-Month of.0)) (omega (arith, ap depth (fold-Month Data expr_node_data of.0), fold-Month ℕ (expr_measure max) of.0, of.1))
expr_layer (Expr-F.Day of) = subst DeepExpr (sym (expr.rolls-Day of.0)) (omega (arith, ap depth (fold-Day Data expr_node_data of.0), fold-Day ℕ (expr_measure max) of.0, of.1))
expr_layer (Expr-F.Length of) = subst DeepExpr (sym (expr.rolls-Length of.0)) (omega (arith, ap depth (fold-Length Data expr_node_data of.0), fold-Length ℕ (expr_measure max) of.0, of.1))
expr_layer (Expr-F.Linear a b of) =
    subst DeepExpr (sym (expr.rolls-Linear a b of.0)) (omega (arith, ap depth (fold-Linear Data expr_node_data a b of.0), fold-Linear ℕ (expr_measure max) a b of.0, of.1))
expr_layer (Expr-F.Join left between right) =
    subst DeepExpr (sym (expr.rolls-Join left.0 between right.0))
    (omega (arith, ap depth (fold-Join Data expr_node_data left.0 between right.0), fold-Join ℕ (expr_measure max) left.0 between right.0, left.1, right.1))

deep_expr : (e : Expr) → DeepExpr e
deep_expr = ind-Expr DeepExpr (λ x y is. subst (λ z. DeepExpr (roll-Expr z)) is (expr_layer y))

-- ---- predicates: a list of them takes two levels

flat_day : (day : ℤ) → depth (day_data day) ≡ 0
flat_day day = by (is_day_number day)
  where
    by : (b : Bool) → depth (if b then string (text_of_day day) else number (of_integer day)) ≡ 0
    by true = refl
    by false = refl

flat_cell : (c : Cell) → depth (cell_data c) ≡ 0
flat_cell cell.Missing = refl
flat_cell (cell.Int n) = refl
flat_cell (cell.Date day) = flat_day day
flat_cell (cell.Text text) = refl

abbrev DeepPred : Pred → Type 0
DeepPred p = depth (pred_data p) ≤ 2 * pred_depth p

deep_parts : (ps : List ((p : Pred) × DeepPred p)) → items_depth (items_of (map pred_data (map (λ e. e.0) ps))) ≤ 2 * greatest (map pred_depth (map (λ e. e.0) ps))
deep_parts [] = omega arith
deep_parts (p ∷ ps) = omega (arith, p.1, deep_parts ps)

pred_layer : (y : Pred-F ((p : Pred) × DeepPred p)) → DeepPred (roll-Pred (map-Pred ((p : Pred) × DeepPred p) Pred (λ e. e.0) y))
unfolding pred_data pred_depth
pred_layer (Pred-F.Cmp col r to) =
    subst DeepPred (sym (pred.rolls-Cmp col r to)) (omega (arith, ap depth (fold-Cmp Data pred_node_data col r to), fold-Cmp ℕ (pred_measure greatest) col r to, flat_cell to))
pred_layer (Pred-F.Missing col) = subst DeepPred (sym (pred.rolls-Missing col)) (omega (arith, ap depth (fold-Missing Data pred_node_data col), fold-Missing ℕ (pred_measure greatest) col))
pred_layer (Pred-F.Match col test) =
    subst DeepPred (sym (pred.rolls-Match col test)) (omega (arith, ap depth (fold-Match Data pred_node_data col test), fold-Match ℕ (pred_measure greatest) col test))
pred_layer (Pred-F.And parts) =
    subst DeepPred (sym (pred.rolls-And (map (λ e. e.0) parts)))
    (omega (arith, ap depth (fold-And Data pred_node_data (map (λ e. e.0) parts)), fold-And ℕ (pred_measure greatest) (map (λ e. e.0) parts), deep_parts parts))
pred_layer (Pred-F.Or parts) =
    subst DeepPred (sym (pred.rolls-Or (map (λ e. e.0) parts)))
    (omega (arith, ap depth (fold-Or Data pred_node_data (map (λ e. e.0) parts)), fold-Or ℕ (pred_measure greatest) (map (λ e. e.0) parts), deep_parts parts))
pred_layer (Pred-F.Not of) =
    subst DeepPred (sym (pred.rolls-Not of.0)) (omega (arith, ap depth (fold-Not Data pred_node_data of.0), fold-Not ℕ (pred_measure greatest) of.0, of.1))

deep_pred : (p : Pred) → DeepPred p
deep_pred = ind-Pred DeepPred (λ x y is. subst (λ z. DeepPred (roll-Pred z)) is (pred_layer y))

-- ---- of those that can be used

expr_bound : (columns : Columns) (e : Expr) → expr_fault columns e ≡ None → depth (expr_data e) ≤ MAX_DEPTH
unfolding expr_fault
expr_bound columns e fine = omega (arith, deep_expr e, not_deep (expr_depth e) (expr_faults columns e None) fine)

pred_bound : (columns : Columns) (p : Pred) → pred_fault columns p ≡ None → depth (pred_data p) ≤ 2 * MAX_DEPTH
unfolding pred_fault
pred_bound columns p fine = omega (arith, deep_pred p, not_deep (pred_depth p) (pred_faults columns p) fine)

-- ---- bases and terms

flat_texts : (texts : List (List ℕ)) → items_depth (items_of (map string texts)) ≡ 0
flat_texts [] = refl
flat_texts (t ∷ texts) = omega (arith, flat_texts texts)

flat_columns : (columns : Columns) → items_depth (items_of (map column_data columns)) ≤ 1
flat_columns [] = omega arith
flat_columns (c ∷ columns) = omega (arith, flat_columns columns)

base_bound : (b : Base) → depth (base_data b) ≤ 4
base_bound (base.Inline columns parts) = omega (arith, flat_texts parts, flat_columns columns)
base_bound (base.Named columns table parts) = omega (arith, flat_columns columns)

module _ (columns : Columns) where
  abbrev DeepTerm : Term → Type 0
  DeepTerm t = AreFit columns t → depth (term_data t) ≤ term_depth t + 2 * MAX_DEPTH

  term_layer : (y : Term-F ((t : Term) × DeepTerm t)) → DeepTerm (roll-Term (map-Term ((t : Term) × DeepTerm t) Term (λ e. e.0) y))
  unfolding term_data
  term_layer Term-F.Base = subst DeepTerm (sym term.rolls-Base) (λ fit. omega (arith, ap depth (fold-Base Data term_node_data), depth-Base))
  term_layer (Term-F.Filter of p) = subst DeepTerm (sym (term.rolls-Filter of.0 p)) (λ fit.
      omega (
        arith,
        ap depth (fold-Filter Data term_node_data of.0 p),
        depth-Filter of.0 p,
        of.1 (inner-Filter columns of.0 p fit),
        pred_bound (columns_of columns of.0) p (here-Filter columns of.0 p fit),
      ))
  term_layer (Term-F.Project of cols) = subst DeepTerm (sym (term.rolls-Project of.0 cols)) (λ fit.
      omega (arith, ap depth (fold-Project Data term_node_data of.0 cols), depth-Project of.0 cols, of.1 (inner-Project columns of.0 cols fit), flat_texts cols))
  term_layer (Term-F.Derive of name e) = subst DeepTerm (sym (term.rolls-Derive of.0 name e)) (λ fit.
      omega (
        arith,
        ap depth (fold-Derive Data term_node_data of.0 name e),
        depth-Derive of.0 name e,
        of.1 (inner-Derive columns of.0 name e fit),
        expr_bound (columns_of columns of.0) e (here-Derive columns of.0 name e fit).value,
      ))
  term_layer (Term-F.Sample of seed threshold) = subst DeepTerm (sym (term.rolls-Sample of.0 seed threshold)) (λ fit.
      omega (
        arith,
        ap depth (fold-Sample Data term_node_data of.0 seed threshold),
        depth-Sample of.0 seed threshold,
        of.1 (inner-Sample columns of.0 seed threshold fit),
      ))
  term_layer (Term-F.Combine how left right) = subst DeepTerm (sym (term.rolls-Combine how left.0 right.0)) (λ fit.
      omega (
        arith,
        ap depth (fold-Combine Data term_node_data how left.0 right.0),
        depth-Combine how left.0 right.0,
        left.1 (inner-left columns how left.0 right.0 fit),
        right.1 (inner-right columns how left.0 right.0 fit),
      ))

  term_bound : (t : Term) → DeepTerm t
  term_bound = ind-Term DeepTerm (λ x y is. subst (λ z. DeepTerm (roll-Term z)) is (term_layer y))

pub lineage_bound : (lineage : TermOver) → IsLineage lineage → depth (lineage_data lineage) ≤ max_depth
lineage_bound lineage kept = omega (arith, base_bound lineage.base, term_bound (base_columns lineage.base) lineage.term kept.fits, kept.shallow)
