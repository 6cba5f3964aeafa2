use Rattle.std.proofs.Common.{◌≡◌}
use Rattle.hv_member.specs.Sets.{numbers}
use Rattle.hv_session.proofs.last_words.all_parts.Given as goal

-- the partitions so far are there
abbrev pub invariant-loop-part : goal.invariant-loop-part
invariant-loop-part l = l.parts ≡ record { size = l.fn.size; parts = numbers l.part }
