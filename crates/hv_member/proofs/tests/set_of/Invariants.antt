use Rattle.std.proofs.Common.{◌≡◌}
use Rattle.hv_member.proofs.tests.set_of.Given as goal

abbrev pub invariant-loop-part : goal.invariant-loop-part
invariant-loop-part l = l.set.size ≡ l.size
