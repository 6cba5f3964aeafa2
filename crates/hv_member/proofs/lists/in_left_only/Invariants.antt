use Rattle.std.proofs.Common.{length, ◌+◌}
use Rattle.hv_member.specs.Sets.{minus}
use Rattle.hv_member.proofs.MergeLemmas.{Merging}
use Rattle.hv_member.proofs.lists.in_left_only.Given as goal

abbrev pub invariant-loop-left_rest : goal.invariant-loop-left_rest
invariant-loop-left_rest l = Merging minus l.fn.left l.fn.right l.found.items l.left_rest l.right_rest

abbrev pub decreases-loop-left_rest : goal.decreases-loop-left_rest
decreases-loop-left_rest l = length l.left_rest + length l.right_rest
