use Rattle.std.proofs.Common.{◌∙◌, ap, get_or}
use Rattle.hv_grid.proofs.GridLoops.{one_more}
use Rattle.hv_grid.proofs.shown.row_counts.Goals as goal

pub loop-column-preserved : goal.loop-column-preserved
loop-column-preserved c =
    rw c.in_ok-push.ensures.added
    (one_more _ c.loop-column.column c.loop-column.made _ c.loop-column.invariant
    (c.count_at.ensures ∙ ap (λ s. get_or c.args.counts.now s 0) c.grid_slot.ensures.value))
