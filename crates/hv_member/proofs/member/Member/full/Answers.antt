use Rattle.hv_member.proofs.RisingLemmas.{IsSetBelow-numbers}
use Rattle.hv_member.proofs.member.Member.full.Goals as goal

pub invariant_of-result : goal.invariant_of-result
invariant_of-result c = IsSetBelow-numbers c.args.n
