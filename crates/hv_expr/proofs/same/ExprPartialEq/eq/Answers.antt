use Rattle.hv_value.specs.SameLaws.{same_by-is}
use Rattle.hv_expr.specs.contracts.expr.Expr as row
use Rattle.hv_expr.proofs.same.ExprPartialEq.eq.Goals as goal

pub returns : goal.returns
returns c = same_by-is row.the_row.coded c.are_same_exprs.result c.args.self.now c.args.other.now c.are_same_exprs.ensures
