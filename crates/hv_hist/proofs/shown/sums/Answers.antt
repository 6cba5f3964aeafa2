use Rattle.std.proofs.Common.{refl}
use Rattle.hv_hist.proofs.RunningSums.{AreSums-more}
use Rattle.hv_hist.proofs.shown.sums.Goals as goal

pub loop-count-preserved : goal.loop-count-preserved
loop-count-preserved c =
    λ fits.
    rw c.in_ok-push.ensures.added
    (AreSums-more c.args.counts.now c.loop-count.count-index c.loop-count.so_far c.loop-count.sums _ c.saturating_add-so_far.result
    c.loop-count-test.true refl c.saturating_add-so_far.ensures fits (c.loop-count.invariant fits))
