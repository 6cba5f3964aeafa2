use Rattle.std.proofs.Common.{take}
use Rattle.hv_expr.specs.Ready.{AreReadyPreds}
use Rattle.hv_expr.proofs.ready_pred.+of.Given as goal

abbrev pub invariant-all_of-loop-part : goal.invariant-all_of-loop-part
invariant-all_of-loop-part l = AreReadyPreds l.schema (take l.part-index l.parts) l.ready
