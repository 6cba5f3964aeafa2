use Rattle.hv_value.specs.SameLaws.{same_by-is}
use Rattle.hv_bucket.specs.contracts.buckets.Axis as row
use Rattle.hv_bucket.proofs.buckets.AxisPartialEq.eq.Goals as goal

-- the answer is true exactly where the two are the same
pub returns : goal.returns
returns c = same_by-is row.the_row.coded c.same.result c.args.self.now c.args.other.now c.same.ensures
