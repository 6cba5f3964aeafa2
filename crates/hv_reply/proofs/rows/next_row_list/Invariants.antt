use Rattle.std.proofs.Common.{◌≡◌, map, take}
use Rattle.serde_json.specs.View.{view}
use Rattle.hv_reply.specs.Values.{next_row_data}
use Rattle.hv_reply.proofs.rows.next_row_list.Given as goal

-- the values so far are those of the keys before
abbrev pub invariant-loop-row : goal.invariant-loop-row
invariant-loop-row l = map view l.list.items ≡ map next_row_data (take l.row-index l.rows)
