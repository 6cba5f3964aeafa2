use Rattle.std.proofs.Common.{◌∙◌, ap, get_or}
use Rattle.hv_grid.proofs.GridLoops.{one_more}
use Rattle.hv_grid.proofs.shown.column_counts.Goals as goal

pub loop-row-preserved : goal.loop-row-preserved
loop-row-preserved c =
    rw c.in_ok-push.ensures.added
    (one_more _ c.loop-row.row c.loop-row.made _ c.loop-row.invariant
    (c.count_at.ensures ∙ ap (λ s. get_or c.args.counts.now s 0) c.grid_slot.ensures.value))
