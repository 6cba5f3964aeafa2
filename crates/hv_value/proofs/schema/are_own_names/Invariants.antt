use Rattle.std.proofs.Common.{◌≡◌, length}
use Rattle.hv_value.specs.Schema.{have_own_names}
use Rattle.hv_value.proofs.schema.are_own_names.Given as goal

-- the names before the rest are found nowhere else
abbrev pub invariant-loop-rest : goal.invariant-loop-rest
invariant-loop-rest l = have_own_names l.rest ≡ have_own_names l.fn.cols

abbrev pub decreases-loop-rest : goal.decreases-loop-rest
decreases-loop-rest l = length l.rest
