use Rattle.std.proofs.Common.{◌≡◌, ◌++◌, ◌-◌, map}
use Rattle.serde_json.specs.View.{view}
use Rattle.hv_reply.specs.Values.{whole}
use Rattle.hv_reply.proofs.PartLemmas.{rest_from}
use Rattle.hv_reply.proofs.replies.parts_value.Given as goal

-- all partitions are those so far and then those that aren't below the next
abbrev pub invariant-loop-part : goal.invariant-loop-part
invariant-loop-part l = map whole l.parts.parts ≡ map view l.numbers.items ++ map whole (rest_from l.from l.parts.parts)

abbrev pub decreases-loop-part : goal.decreases-loop-part
decreases-loop-part l = l.parts.size - l.from
