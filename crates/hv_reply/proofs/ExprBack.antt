-- An expression reads back from its JSON, and one that a message can give is within its limits.
use Rattle.std.proofs.Common.{◌≡◌, ◌+◌, ◌≤◌, ◌∙◌, ℕ, zero, suc, ℤ, pos, negsuc, max, List, Bool, true, false, option_map, Some, None, refl, sym, ap, subst, arith, if◌then◌else◌}
use Rattle.std.specs.Prelude.{nat_lt, slice_get}
use Rattle.std.proofs.lemmas.Bool.{le-leb, ltb-false}
use Rattle.serde_json.specs.Data.{Data}
use Rattle.serde_json.proofs.OnLiterals.{serde_json_on_literals}
use Rattle.hv_value.specs.Schema.{Columns}
use Rattle.hv_expr.specs.declared.error.ExprErr.{ExprErr}
use Rattle.hv_expr.specs.declared.error.ExprErr.TheVariants as err
use Rattle.hv_expr.specs.declared.error.TheConstants.{MAX_DEPTH}
use Rattle.hv_expr.specs.declared.expr.Expr.{Expr, ind-Expr, map-Expr, roll-Expr}
use Rattle.hv_expr.specs.declared.expr.Expr.TheOpen.{Expr-F}
use Rattle.hv_expr.specs.declared.expr.Expr.TheVariants as expr
use Rattle.hv_expr.specs.Checks.{expr_fault, expr_faults, first_fault}
use Rattle.hv_expr.specs.Sizes.{expr_depth, expr_measure, expr_nodes}
use Rattle.hv_expr.proofs.Folds.{fold-Col, fold-Year, fold-Month, fold-Day, fold-Length, fold-Linear, fold-Join}
use Rattle.hv_asked.specs.Fields.{shaped}
use Rattle.hv_asked.specs.Trees.{expr_in, fits_expr, levels}
use Rattle.hv_asked.specs.declared.limits.TheConstants.{MAX_NODES}
use Rattle.hv_reply.specs.Lineages.{expr_data, expr_node_data}
use Rattle.hv_reply.specs.ReadBack.{IsGivenExpr}

-- ---- what each node reads as

module _ (m : ℕ) where
  col_in : (name : List ℕ) → expr_in (suc m) (expr_node_data (Expr-F.Col name)) ≡ Some (expr.Col name)
  unfolding expr_in serde_json_on_literals
  col_in name = refl

  year_in : (d : Data) → expr_in (suc m) (expr_node_data (Expr-F.Year d)) ≡ option_map expr.Year (expr_in m d)
  unfolding expr_in serde_json_on_literals
  year_in d = refl

  month_in : (d : Data) → expr_in (suc m) (expr_node_data (Expr-F.Month d)) ≡ option_map expr.Month (expr_in m d)
  unfolding expr_in serde_json_on_literals
  month_in d = refl

  day_in : (d : Data) → expr_in (suc m) (expr_node_data (Expr-F.Day d)) ≡ option_map expr.Day (expr_in m d)
  unfolding expr_in serde_json_on_literals
  day_in d = refl

  length_in : (d : Data) → expr_in (suc m) (expr_node_data (Expr-F.Length d)) ≡ option_map expr.Length (expr_in m d)
  unfolding expr_in serde_json_on_literals
  length_in d = refl

  linear_in : (a b : ℤ) (d : Data) → expr_in (suc m) (expr_node_data (Expr-F.Linear a b d)) ≡ option_map (expr.Linear a b) (expr_in m d)
  unfolding expr_in serde_json_on_literals
  linear_in (pos a) (pos b) d = refl
  linear_in (pos a) (negsuc b) d = refl
  linear_in (negsuc a) (pos b) d = refl
  linear_in (negsuc a) (negsuc b) d = refl

  join_in : (l : Data) (between : List ℕ) (r : Data) → expr_in (suc m) (expr_node_data (Expr-F.Join l between r))
      ≡ shaped (expr_in m l) (λ left. option_map (expr.Join left between) (expr_in m r))
  unfolding expr_in serde_json_on_literals
  join_in l between r = refl

-- ---- an expression reads back, at as many levels as it is deep

abbrev ReadsExpr : Expr → Type 0
ReadsExpr e = (m : ℕ) → expr_depth e ≤ m → expr_in m (expr_data e) ≡ Some e

col_back : (name : List ℕ) → ReadsExpr (expr.Col name)
unfolding expr_depth expr_data
col_back name zero deep = absurd (omega (arith, fold-Col ℕ (expr_measure max) name, deep))
col_back name (suc m) deep = ap (expr_in (suc m)) (fold-Col Data expr_node_data name) ∙ col_in m name

-- a node over one other
over_back : (of : Expr) (make : Expr → Expr) (node : Data → Data)
    → expr_data (make of) ≡ node (expr_data of) → expr_depth (make of) ≡ expr_depth of + 1
    → ((m : ℕ) (d : Data) → expr_in (suc m) (node d) ≡ option_map make (expr_in m d)) → ReadsExpr of → ReadsExpr (make of)
over_back of make node written deeper step inner zero deep = absurd (omega (arith, deeper, deep))
over_back of make node written deeper step inner (suc m) deep =
    ap (expr_in (suc m)) written ∙ step m (expr_data of) ∙ ap (option_map make) (inner m (omega (arith, deeper, deep)))

join_back : (left : Expr) (between : List ℕ) (right : Expr) → ReadsExpr left → ReadsExpr right → ReadsExpr (expr.Join left between right)
unfolding expr_depth expr_data
join_back left between right first second zero deep = absurd (omega (arith, fold-Join ℕ (expr_measure max) left between right, deep))
join_back left between right first second (suc m) deep =
    let l : expr_in m (expr_data left) ≡ Some left = first m (omega (arith, fold-Join ℕ (expr_measure max) left between right, deep)) in
    let r : expr_in m (expr_data right) ≡ Some right = second m (omega (arith, fold-Join ℕ (expr_measure max) left between right, deep)) in
    ap (expr_in (suc m)) (fold-Join Data expr_node_data left between right)
    ∙ join_in m (expr_data left) between (expr_data right) ∙ rw (l, r) refl

layer : (y : Expr-F ((e : Expr) × ReadsExpr e)) → ReadsExpr (roll-Expr (map-Expr ((e : Expr) × ReadsExpr e) Expr (λ e. e.0) y))
unfolding expr_depth expr_data
layer (Expr-F.Col name) = subst ReadsExpr (sym (expr.rolls-Col name)) (col_back name)
layer (Expr-F.Year of) = subst ReadsExpr (sym (expr.rolls-Year of.0))
    (over_back of.0 expr.Year (λ d. expr_node_data (Expr-F.Year d)) (fold-Year Data expr_node_data of.0) (fold-Year ℕ (expr_measure max) of.0) year_in of.1)
layer (Expr-F.Month of) = subst ReadsExpr (sym (expr.rolls-Month of.0))
    (over_back of.0 expr.Month (λ d. expr_node_data (Expr-F.Month d)) (fold-Month Data expr_node_data of.0) (fold-Month ℕ (expr_measure max) of.0) month_in of.1)
layer (Expr-F.Day of) = subst ReadsExpr (sym (expr.rolls-Day of.0))
    (over_back of.0 expr.Day (λ d. expr_node_data (Expr-F.Day d)) (fold-Day Data expr_node_data of.0) (fold-Day ℕ (expr_measure max) of.0) day_in of.1)
layer (Expr-F.Length of) = subst ReadsExpr (sym (expr.rolls-Length of.0))
    (over_back of.0 expr.Length (λ d. expr_node_data (Expr-F.Length d)) (fold-Length Data expr_node_data of.0) (fold-Length ℕ (expr_measure max) of.0) length_in of.1)
layer (Expr-F.Linear a b of) = subst ReadsExpr (sym (expr.rolls-Linear a b of.0))
    (over_back of.0 (expr.Linear a b) (λ d. expr_node_data (Expr-F.Linear a b d)) (fold-Linear Data expr_node_data a b of.0) (fold-Linear ℕ (expr_measure max) a b of.0)
    (λ m. linear_in m a b) of.1)
layer (Expr-F.Join left between right) = subst ReadsExpr (sym (expr.rolls-Join left.0 between right.0)) (join_back left.0 between right.0 left.1 right.1)

expr_back : (e : Expr) → ReadsExpr e
expr_back = ind-Expr ReadsExpr (λ x y is. subst (λ z. ReadsExpr (roll-Expr z)) is (layer y))

-- a tree that can be used isn't too deep
pub not_deep : (depth : ℕ) (faults : List ExprErr) → first_fault depth faults ≡ None → depth ≤ MAX_DEPTH
not_deep depth faults fine = by (nat_lt MAX_DEPTH depth) refl fine
  where
    by : (t : Bool) → nat_lt MAX_DEPTH depth ≡ t → (if t then Some err.TooDeep else slice_get faults 0) ≡ None → depth ≤ MAX_DEPTH
    by true deep f = absurd (cc f)
    by false low f = ltb-false MAX_DEPTH depth low

-- an expression that can be used reads back
pub whole_back : (columns : Columns) (e : Expr) → expr_fault columns e ≡ None → expr_in levels (expr_data e) ≡ Some e
unfolding expr_fault
whole_back columns e fine =
    let shallow : expr_depth e ≤ MAX_DEPTH = not_deep (expr_depth e) (expr_faults columns e None) fine in
    expr_back e levels (omega arith)

-- one that a message can give is within its limits
pub fits_back : (e : Expr) → IsGivenExpr e → fits_expr e ≡ true
fits_back e given = rw (given.texts, le-leb (expr_nodes e) MAX_NODES given.few) refl
