use Rattle.hv_expr.specs.Checks.{pred_faults}
use Rattle.hv_expr.proofs.FaultLemmas.{found-first, none-more}
use Rattle.hv_expr.proofs.+fault.Goals as goal

pub check_pred::first_fault-returns-then-is_some : goal.check_pred::first_fault-returns-then-is_some
check_pred::first_fault-returns-then-is_some t c =
    found-first (pred_faults c.args.schema.now) c.args.parts.now c.loop-part.part-index c.part-item.result c.loop-part-test.true c.part-item.is
    c.loop-part.invariant c.fault-fault.result (rw c.is_some.ensures at c.if-is_some.true) c.fault-fault.ensures

pub check_pred::first_fault-loop-part-preserved : goal.check_pred::first_fault-loop-part-preserved
check_pred::first_fault-loop-part-preserved t c =
    none-more (pred_faults c.args.schema.now) c.args.parts.now c.loop-part.part-index c.part-item.result c.loop-part-test.true c.part-item.is
    c.loop-part.invariant c.fault-fault.result (rw c.is_some.ensures at c.if-is_some.false) c.fault-fault.ensures
