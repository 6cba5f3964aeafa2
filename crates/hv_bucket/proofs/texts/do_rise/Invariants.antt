use Rattle.std.proofs.Common.{◌≡◌, length}
use Rattle.hv_bucket.specs.Buckets.{bounds_rise}
use Rattle.hv_bucket.proofs.texts.do_rise.Given as goal

-- the texts before the rest are each below the next
abbrev pub invariant-loop-rest : goal.invariant-loop-rest
invariant-loop-rest l = bounds_rise l.rest ≡ bounds_rise l.fn.texts

abbrev pub decreases-loop-rest : goal.decreases-loop-rest
decreases-loop-rest l = length l.rest
