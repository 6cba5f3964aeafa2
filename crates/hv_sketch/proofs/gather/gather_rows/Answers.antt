use Rattle.std.proofs.Common.{arith}
use Rattle.hv_sketch.proofs.GatherFacts.{can_add, gathered_all, gathered_more, gathered_none, is_step, step_number, step_there}
use Rattle.hv_sketch.proofs.gather.gather_rows.Goals as goal

pub loop-row-init : goal.loop-row-init
loop-row-init g c = gathered_none _ _ _ _ c.schema-columns.ensures.whole c.in_ok-kept.ensures

pub add_row-requires-clause-row_there : goal.add_row-requires-clause-row_there
add_row-requires-clause-row_there g c =
    step_there _ _ _ _ _ (is_step _ _ _ _ _ c.schema-columns.ensures.whole c.in-Some.ensures)

pub add_row-requires-clause-kept_so_far : goal.add_row-requires-clause-kept_so_far
add_row-requires-clause-kept_so_far g c =
    let step = is_step _ _ _ _ _ c.schema-columns.ensures.whole c.in-Some.ensures in
    (c.loop-row.invariant.before, step.found, step.there, c.loop-row.invariant.gathered, can_add _ _ _ _ _ _ step c.loop-row.invariant)

pub overflow_add-from : goal.overflow_add-from
overflow_add-from g c =
    let bounds = step_number _ _ _ _ _ (is_step _ _ _ _ _ c.schema-columns.ensures.whole c.in-Some.ensures) in omega (arith, bounds.1)

pub loop-row-smaller : goal.loop-row-smaller
loop-row-smaller g c =
    let bounds = step_number _ _ _ _ _ (is_step _ _ _ _ _ c.schema-columns.ensures.whole c.in-Some.ensures) in omega (arith, bounds.0, bounds.1)

pub loop-row-preserved : goal.loop-row-preserved
loop-row-preserved g c =
    gathered_more _ _ _ _ _ _ _ (is_step _ _ _ _ _ c.schema-columns.ensures.whole c.in-Some.ensures) c.loop-row.invariant c.in_ok-add_row.ensures

pub returns : goal.returns
returns g c = gathered_all _ _ _ c.in_default.ensures c.loop-row.invariant
