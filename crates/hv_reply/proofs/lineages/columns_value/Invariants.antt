use Rattle.std.proofs.Common.{◌≡◌, map, take}
use Rattle.serde_json.specs.View.{view}
use Rattle.hv_reply.specs.Lineages.{column_data}
use Rattle.hv_reply.proofs.lineages.columns_value.Given as goal

-- the values so far are those of the columns before
abbrev pub invariant-loop-place : goal.invariant-loop-place
invariant-loop-place l = map view l.list.items ≡ map column_data (take l.place l.schema)
