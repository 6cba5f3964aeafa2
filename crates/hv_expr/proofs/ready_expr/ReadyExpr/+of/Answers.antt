use Rattle.std.proofs.Common.{◌≡◌, true, FitsSigned, rules}
use Rattle.std.proofs.Math.Facts.{to_z-of_z}
use mir.Syntax.{w128}
use Rattle.std.proofs.lemmas.Result.{IfOk-weaker}
use Rattle.hv_expr.specs.declared.expr.Expr as tree
use Rattle.hv_expr.specs.Checks.{has_fit_factors}
use Rattle.hv_expr.specs.Ready.{IsReadyExpr}
use Rattle.hv_expr.proofs.ReadyExprLemmas.{ready-col, ready-year, ready-month, ready-day, ready-length, ready-linear-of, ready-join}
use Rattle.hv_expr.proofs.ready_expr.ReadyExpr.+of.Goals as goal

pub returns-in-Col : goal.returns-in-Col
returns-in-Col t c = rw (c.in-Col.is, c.find.ensures, c.as_str.ensures) (ready-col c.args.schema.now c.in-Col.name)

pub returns-in_ok-boxed-in-Year : goal.returns-in_ok-boxed-in-Year
returns-in_ok-boxed-in-Year t c =
    rw (c.in-Year.is, c.in_ok-boxed-in-Year.ensures)
    (ready-year c.args.schema.now c.in-Year.of c.in_ok-of-in-Year.of (rw c.get.ensures at c.in_ok-of-in-Year.ensures))

pub returns-in_ok-boxed-in-Month : goal.returns-in_ok-boxed-in-Month
returns-in_ok-boxed-in-Month t c =
    rw (c.in-Month.is, c.in_ok-boxed-in-Month.ensures)
    (ready-month c.args.schema.now c.in-Month.of c.in_ok-of-in-Month.of (rw c.get-in-Month.ensures at c.in_ok-of-in-Month.ensures))

pub returns-in_ok-boxed-in-Day : goal.returns-in_ok-boxed-in-Day
returns-in_ok-boxed-in-Day t c =
    rw (c.in-Day.is, c.in_ok-boxed-in-Day.ensures)
    (ready-day c.args.schema.now c.in-Day.of c.in_ok-of-in-Day.of (rw c.get-in-Day.ensures at c.in_ok-of-in-Day.ensures))

pub returns-in_ok-boxed-in-Length : goal.returns-in_ok-boxed-in-Length
returns-in_ok-boxed-in-Length t c =
    rw (c.in-Length.is, c.in_ok-boxed-in-Length.ensures)
    (ready-length c.args.schema.now c.in-Length.of c.in_ok-of-in-Length.of (rw c.get-in-Length.ensures at c.in_ok-of-in-Length.ensures))

pub returns-in_ok-right-in-Join : goal.returns-in_ok-right-in-Join
returns-in_ok-right-in-Join t c =
    let whole = ready-join c.args.schema.now c.in-Join.left c.in-Join.between c.in-Join.right c.in_ok-left-in-Join.left c.in_ok-right-in-Join.right
    (rw c.get-in-Join.ensures at c.in_ok-left-in-Join.ensures) (rw c.get-in-Join-2.ensures at c.in_ok-right-in-Join.ensures) in
    rw c.in-Join.is (IfOk-weaker c.join.result _ (λ e. IsReadyExpr c.args.schema.now (tree.Join c.in-Join.left c.in-Join.between c.in-Join.right) e) (λ e is. rw is whole) c.join.ensures)

pub returns-in_ok-of-in-Linear-2 : goal.returns-in_ok-of-in-Linear-2
returns-in_ok-of-in-Linear-2 t c =
    let fit : has_fit_factors (tree.Linear c.in-Linear.a c.in-Linear.b c.in-Linear.of) ≡ true = rw c.in-Linear.is at c.requires in
    let fit_a : FitsSigned w128 c.in-Linear.a = search rules in
    let fit_b : FitsSigned w128 c.in-Linear.b = search rules in
    rw (c.in-Linear.is, c.in_ok-of-in-Linear-2.ensures)
    (ready-linear-of c.args.schema.now c.in-Linear.a c.in-Linear.b _ _ c.in-Linear.of c.in_ok-of-in-Linear.of (to_z-of_z fit_a) (to_z-of_z fit_b) fit
    (rw c.get-in-Linear.ensures at c.in_ok-of-in-Linear.ensures))
