use Rattle.hv_member.specs.Sets.{IsSetBelow}
use Rattle.hv_member.proofs.tests.picked.Given as goal

abbrev pub invariant-loop-row : goal.invariant-loop-row
invariant-loop-row l = IsSetBelow l.row-counter l.found.items
