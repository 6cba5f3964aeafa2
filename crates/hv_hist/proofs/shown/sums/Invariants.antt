use Rattle.std.proofs.Common.{◌<◌, ◌^◌}
use Rattle.std.specs.List.{sum}
use Rattle.hv_hist.proofs.RunningSums.{AreSums}
use Rattle.hv_hist.proofs.shown.sums.Given as goal

-- the sums so far, where all together fit
abbrev pub invariant-loop-count : goal.invariant-loop-count
invariant-loop-count l = sum l.counts < 2 ^ 64 → AreSums l.counts l.count-index l.so_far l.sums
