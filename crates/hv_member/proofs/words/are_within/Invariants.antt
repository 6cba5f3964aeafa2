use Rattle.hv_member.proofs.BitLemmas.{AreWithinBelow}
use Rattle.hv_member.proofs.words.are_within.Given as goal

abbrev pub invariant-loop-index : goal.invariant-loop-index
invariant-loop-index l = AreWithinBelow l.left l.right l.index
