use Rattle.std.proofs.Common.{◌≡◌, map, take}
use Rattle.serde_json.specs.View.{view}
use Rattle.hv_reply.specs.Values.{cell_data}
use Rattle.hv_reply.proofs.values.cells_value.Given as goal

-- the values so far are those of the cells before
abbrev pub invariant-loop-cell : goal.invariant-loop-cell
invariant-loop-cell l = map view l.list.items ≡ map cell_data (take l.cell-index l.cells)
