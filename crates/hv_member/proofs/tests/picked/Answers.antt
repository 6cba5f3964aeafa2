use Rattle.std.proofs.Common.{arith}
use Rattle.hv_member.proofs.RisingLemmas.{IsSetBelow-more, IsSetBelow-push}
use Rattle.hv_member.proofs.tests.picked.Goals as goal
use Rattle.hv_member.proofs.tests.picked.Goals.{then-contains+in_ok-push, else-contains}

pub loop-row-preserved : goal.loop-row-preserved
loop-row-preserved c =
    elim c.if-contains.branch [
      | then-contains+in_ok-push w ↦ rw (w.found-is, w.in_ok-push.ensures.items) (IsSetBelow-push _ _ c.loop-row.invariant)
      | else-contains w ↦ rw w.found-is (IsSetBelow-more _ _ _ (omega arith) c.loop-row.invariant)
    ]
