use Rattle.hv_value.specs.SameLaws.{same_by-is}
use Rattle.hv_heavy.specs.contracts.count_of.CountOf as row
use Rattle.hv_heavy.proofs.count_of.CountOfPartialEq.eq.Goals as goal

-- an answer that decides sameness is the test's
pub returns : goal.returns
returns c = same_by-is row.the_row.coded c.same.result c.args.self.now c.args.other.now c.same.ensures
