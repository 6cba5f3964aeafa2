use Rattle.hv_grid.proofs.GridLoops.{one_more}
use Rattle.hv_grid.proofs.shown.grid_of.Goals as goal

pub loop-row-preserved : goal.loop-row-preserved
loop-row-preserved c =
    rw c.in_ok-push.ensures.added
    (one_more _ c.loop-row.row c.loop-row.made _ c.loop-row.invariant c.in_ok-row_counts.ensures)
