use Rattle.hv_value.specs.SameLaws.{same_by-is}
use Rattle.hv_quant.specs.contracts.sample.Sample as row
use Rattle.hv_quant.proofs.same.SamplePartialEq.eq.Goals as goal

-- an answer that decides sameness is the test's
pub returns : goal.returns
returns c = same_by-is row.the_row.coded c.same.result c.args.self.now c.args.other.now c.same.ensures
