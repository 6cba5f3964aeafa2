use Rattle.std.proofs.Common.{◌≡◌, map, take}
use Rattle.serde_json.specs.View.{view}
use Rattle.hv_reply.specs.Values.{counts_data}
use Rattle.hv_reply.proofs.charts.grid_value.Given as goal

-- the values so far are those of the rows before
abbrev pub invariant-loop-row : goal.invariant-loop-row
invariant-loop-row l = map view l.list.items ≡ map counts_data (take l.row-index l.rows)
