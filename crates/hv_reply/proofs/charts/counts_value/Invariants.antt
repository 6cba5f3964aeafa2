use Rattle.std.proofs.Common.{◌≡◌, map, take}
use Rattle.serde_json.specs.View.{view}
use Rattle.hv_reply.specs.Values.{whole}
use Rattle.hv_reply.proofs.charts.counts_value.Given as goal

-- the values so far are those of the counts before
abbrev pub invariant-loop-count : goal.invariant-loop-count
invariant-loop-count l = map view l.list.items ≡ map whole (take l.count-index l.counts)
