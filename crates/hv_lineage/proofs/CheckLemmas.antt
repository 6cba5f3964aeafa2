-- An expression that has no fault has a kind.
use Rattle.std.proofs.Common.{◌≡◌, ◌∙◌, ◌++◌, ◌∷◌, ℕ, List, Bool, true, false, Option, Some, None, Ok, Err, refl, sym, ap}
use Rattle.std.specs.Prelude.{if◌then◌else◌, nat_lt, slice_get}
use Rattle.hv_value.specs.declared.cell.Kind.{Kind}
use Rattle.hv_value.specs.Schema.{Columns}
use Rattle.hv_expr.specs.declared.error.ExprErr.{ExprErr}
use Rattle.hv_expr.specs.declared.error.ExprErr.TheVariants as fault
use Rattle.hv_expr.specs.declared.error.TheConstants.{MAX_DEPTH}
use Rattle.hv_expr.specs.declared.expr.Expr.{Expr, fold-Expr, fold_out-Expr, map-Expr, out-Expr}
use Rattle.hv_expr.specs.declared.expr.Expr.TheOpen.{Expr-F}
use Rattle.hv_expr.specs.Checks.{checked_expr, expr_fault, expr_faults, first_fault, kind_of, kind_unless, node_kind, operand_faults, own_faults}
use Rattle.hv_expr.specs.Sizes.{expr_depth}

-- a node's kind doesn't hang on its operands
same-node_kind : {A B : Type 0} (columns : Columns) (f : A → B) (node : Expr-F A) → node_kind columns (map-Expr A B f node) ≡ node_kind columns node
same-node_kind columns f (Expr-F.Col name) = refl
same-node_kind columns f (Expr-F.Year of) = refl
same-node_kind columns f (Expr-F.Month of) = refl
same-node_kind columns f (Expr-F.Day of) = refl
same-node_kind columns f (Expr-F.Length of) = refl
same-node_kind columns f (Expr-F.Linear a b of) = refl
same-node_kind columns f (Expr-F.Join left between right) = refl

-- the faults of an expression begin with those of its outermost node
faults-begin : (columns : Columns) (e : Expr) → (rest : List ExprErr) × (expr_faults columns e None ≡ own_faults None (kind_of columns e) ++ rest)
unfolding expr_faults
faults-begin columns e =
    let step : Expr-F (Option Kind → List ExprErr) → Option Kind → List ExprErr =
    λ node wanted. own_faults wanted (node_kind columns node) ++ operand_faults node in
    let below : Expr → Option Kind → List ExprErr = fold-Expr (Option Kind → List ExprErr) step in
    let node : Expr-F (Option Kind → List ExprErr) = map-Expr Expr (Option Kind → List ExprErr) below (out-Expr e) in
    let opened = fold_out-Expr (Option Kind → List ExprErr) step e in (
      operand_faults node,
      ap (λ faults. faults None) opened ∙ ap (λ k. own_faults None k ++ operand_faults node) (same-node_kind columns below (out-Expr e)),
    )

none-faults : (depth : ℕ) (faults : List ExprErr) → first_fault depth faults ≡ None → slice_get faults 0 ≡ None
none-faults depth faults e = by (nat_lt MAX_DEPTH depth) e
  where
    by : (b : Bool) → (if b then Some fault.TooDeep else slice_get faults 0) ≡ None → slice_get faults 0 ≡ None
    by true e = absurd (cc e)
    by false e = e

-- so where there is none the node has a kind
pub fit-has_kind : (columns : Columns) (e : Expr) → expr_fault columns e ≡ None → kind_of columns e ≡ None → ⊥
unfolding expr_fault
fit-has_kind columns e none no_kind =
    let begin = faults-begin columns e in
    let first : slice_get (own_faults None (kind_of columns e) ++ begin.0) 0 ≡ None = rw (← begin.1) (none-faults (expr_depth e) (expr_faults columns e None) none) in
    let some : slice_get (fault.NoColumn ∷ begin.0) 0 ≡ None = rw no_kind at first in
    cc some

-- an error of a check is its fault
pub check-fault : (columns : Columns) (e : Expr) (f : ExprErr) → Err f ≡ checked_expr columns e → expr_fault columns e ≡ Some f
check-fault columns e f is = by (expr_fault columns e) refl (kind_of columns e) refl is
  where
    by : (o : Option ExprErr) → expr_fault columns e ≡ o → (k : Option Kind) → kind_of columns e ≡ k → Err f ≡ kind_unless o k → o ≡ Some f
    by (Some g) same k has is = let here : f ≡ g = cc is in ap Some (sym here)
    by None none None has is = absurd (fit-has_kind columns e none has)
    by None none (Some k) has is = absurd (cc is)

-- a check of an expression without a fault answers its kind
pub checked-fit : (columns : Columns) (e : Expr) → expr_fault columns e ≡ None → (k : Kind) × (checked_expr columns e ≡ Ok k)
checked-fit columns e none = by (kind_of columns e) refl
  where
    by : (k : Option Kind) → kind_of columns e ≡ k → (found : Kind) × (checked_expr columns e ≡ Ok found)
    by None has = absurd (fit-has_kind columns e none has)
    by (Some k) has = (k, rw (none, has) refl)
