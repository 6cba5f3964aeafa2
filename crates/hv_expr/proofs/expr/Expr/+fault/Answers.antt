use Rattle.std.proofs.Common.{◌≡◌, slice_get, None, refl, ◌∙◌, arith}
use Rattle.std.proofs.lemmas.Grind.{common_steps}
use Rattle.hv_expr.specs.Checks.{own_faults}
use Rattle.hv_expr.proofs.Nodes.{join-first}
use Rattle.hv_expr.proofs.expr.Expr.+fault.Goals as goal

pub returns-in-Join : goal.returns-in-Join
returns-in-Join t c =
    let own : slice_get (own_faults c.args.wanted c.kind.result) 0 ≡ None = grind (arith, common_steps) in
    let whole = join-first c.args.schema.now c.args.self.now c.in-Join.left c.in-Join.between c.in-Join.right c.args.wanted c.in-Join.is (rw c.kind.ensures at own) in
    c.or.ensures ∙ rw (c.fault-first.ensures, c.fault-second.ensures, c.get-in-Join.ensures, c.get-in-Join-2.ensures, whole) refl
