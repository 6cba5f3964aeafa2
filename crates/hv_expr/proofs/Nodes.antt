-- What is wrong with a join: with itself, then with its left side, then with its right side.
use Rattle.std.proofs.Common.{◌≡◌, ℕ, List, ◌++◌, Option, Some, None, slice_get, ap, ◌∙◌}
use Rattle.std.specs.Option.{option_or}
use Rattle.hv_value.specs.declared.cell.Kind.{Kind}
use Rattle.hv_value.specs.declared.cell.Kind.TheVariants as kind
use Rattle.hv_value.specs.Schema.{Columns}
use Rattle.hv_expr.specs.declared.error.ExprErr.{ExprErr}
use Rattle.hv_expr.specs.declared.expr.Expr.{Expr, Join}
use Rattle.hv_expr.specs.declared.expr.Expr.TheVariants.{outs-Join}
use Rattle.hv_expr.specs.Checks.{expr_faults, kind_of, node_kind, operand_faults, own_faults}
use Rattle.hv_expr.proofs.FaultLemmas.{first-append, none-first}
use Rattle.hv_expr.proofs.Folds.{fold-Join}

pub join-faults : (columns : Columns) (left : Expr) (between : List ℕ) (right : Expr) (wanted : Option Kind)
    → expr_faults columns (Join left between right) wanted
    ≡ own_faults wanted (Some kind.Text) ++ (expr_faults columns left (Some kind.Text) ++ expr_faults columns right (Some kind.Text))
unfolding expr_faults
join-faults columns left between right wanted =
    ap (λ faults. faults wanted)
    (fold-Join (Option Kind → List ExprErr) (λ node w. own_faults w (node_kind columns node) ++ operand_faults node) left between right)

-- so where it has nothing of its own, the first is that of the left side, or else that of the right side
pub join-first : (columns : Columns) (e left : Expr) (between : List ℕ) (right : Expr) (wanted : Option Kind) → e ≡ Join left between right
    → slice_get (own_faults wanted (kind_of columns e)) 0 ≡ None
    → slice_get (expr_faults columns e wanted) 0
    ≡ option_or (slice_get (expr_faults columns left (Some kind.Text)) 0) (slice_get (expr_faults columns right (Some kind.Text)) 0)
join-first columns e left between right wanted is none =
    let own : slice_get (own_faults wanted (Some kind.Text)) 0 ≡ None = rw (is, outs-Join) at none in
    rw (is, join-faults)
    (none-first (own_faults wanted (Some kind.Text)) (expr_faults columns left (Some kind.Text) ++ expr_faults columns right (Some kind.Text)) own
    ∙ first-append (expr_faults columns left (Some kind.Text)) (expr_faults columns right (Some kind.Text)))
