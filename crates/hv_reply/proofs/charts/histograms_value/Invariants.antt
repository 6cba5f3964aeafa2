use Rattle.std.proofs.Common.{◌≡◌, map, take}
use Rattle.serde_json.specs.View.{view}
use Rattle.hv_reply.specs.Values.{histogram_data}
use Rattle.hv_reply.proofs.charts.histograms_value.Given as goal

-- the values so far are those of the histograms before
abbrev pub invariant-loop-group : goal.invariant-loop-group
invariant-loop-group l = map view l.list.items ≡ map histogram_data (take l.group-index l.groups)
