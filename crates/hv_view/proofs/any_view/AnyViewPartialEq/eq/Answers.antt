use Rattle.hv_value.specs.SameLaws.{same_by-is}
use Rattle.hv_view.specs.contracts.any_view.AnyView as row
use Rattle.hv_view.proofs.any_view.AnyViewPartialEq.eq.Goals as goal

pub returns : goal.returns
returns c = same_by-is row.the_row.coded c.same.result c.args.self.now c.args.other.now c.same.ensures
