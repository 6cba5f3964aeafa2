use Rattle.std.proofs.Common.{◌≡◌, map, take}
use Rattle.serde_json.specs.View.{view}
use Rattle.hv_reply.specs.Values.{key_data}
use Rattle.hv_reply.proofs.rows.key_list.Given as goal

-- the values so far are those of the keys before
abbrev pub invariant-loop-key : goal.invariant-loop-key
invariant-loop-key l = map view l.list.items ≡ map key_data (take l.key-index l.keys)
