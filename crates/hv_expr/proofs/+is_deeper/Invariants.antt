use Rattle.std.proofs.Common.{◌≤◌, map, take}
use Rattle.hv_expr.specs.Sizes.{greatest, pred_depth}
use Rattle.hv_expr.proofs.+is_deeper.Given as goal

abbrev pub invariant-check_pred::is_any_deeper-loop-part : goal.invariant-check_pred::is_any_deeper-loop-part
invariant-check_pred::is_any_deeper-loop-part l = greatest (map pred_depth (take l.part-index l.parts)) ≤ l.limit
