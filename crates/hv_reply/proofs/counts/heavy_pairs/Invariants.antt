use Rattle.std.proofs.Common.{◌≡◌, map, take}
use Rattle.serde_json.specs.View.{view}
use Rattle.hv_reply.specs.Values.{heavy_pair_data}
use Rattle.hv_reply.proofs.counts.heavy_pairs.Given as goal

-- the values so far are those of the pairs before
abbrev pub invariant-loop-pair : goal.invariant-loop-pair
invariant-loop-pair l = map view l.list.items ≡ map heavy_pair_data (take l.pair-index l.pairs)
