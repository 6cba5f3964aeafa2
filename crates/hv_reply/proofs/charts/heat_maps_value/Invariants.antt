use Rattle.std.proofs.Common.{◌≡◌, map, take}
use Rattle.serde_json.specs.View.{view}
use Rattle.hv_reply.specs.Values.{heat_map_data}
use Rattle.hv_reply.proofs.charts.heat_maps_value.Given as goal

-- the values so far are those of the heat maps before
abbrev pub invariant-loop-group : goal.invariant-loop-group
invariant-loop-group l = map view l.list.items ≡ map heat_map_data (take l.group-index l.groups)
