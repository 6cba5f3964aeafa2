use Rattle.std.proofs.Common.{◌≡◌, take}
use Rattle.hv_expr.proofs.pred.+pred_copy.Given as goal

abbrev pub invariant-copies-loop-part : goal.invariant-copies-loop-part
invariant-copies-loop-part l = l.items ≡ take l.part-index l.parts
