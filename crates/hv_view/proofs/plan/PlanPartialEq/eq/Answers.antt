use Rattle.hv_value.specs.SameLaws.{same_by-is}
use Rattle.hv_view.specs.contracts.plan.Plan as row
use Rattle.hv_view.proofs.plan.PlanPartialEq.eq.Goals as goal

pub returns : goal.returns
returns c = same_by-is row.the_row.coded c.same.result c.args.self.now c.args.other.now c.same.ensures
