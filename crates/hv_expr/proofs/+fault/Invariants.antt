use Rattle.std.proofs.Common.{◌≡◌, [], take, flat_map}
use Rattle.hv_expr.specs.Checks.{pred_faults}
use Rattle.hv_expr.proofs.+fault.Given as goal

abbrev pub invariant-check_pred::first_fault-loop-part : goal.invariant-check_pred::first_fault-loop-part
invariant-check_pred::first_fault-loop-part l = flat_map (pred_faults l.schema) (take l.part-index l.parts) ≡ []
