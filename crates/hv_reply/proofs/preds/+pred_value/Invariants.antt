use Rattle.std.proofs.Common.{◌≡◌, map, take}
use Rattle.serde_json.specs.View.{view}
use Rattle.hv_reply.specs.Lineages.{pred_data}
use Rattle.hv_reply.proofs.preds.+pred_value.Given as goal

-- the values so far are those of the predicates before
abbrev pub invariant-preds_value-loop-part : goal.invariant-preds_value-loop-part
invariant-preds_value-loop-part l = map view l.list.items ≡ map pred_data (take l.part-index l.parts)
