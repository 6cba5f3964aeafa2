use Rattle.std.proofs.Common.{◌≡◌, ◌<◌, ◌^◌, List, ℕ, subst}
use Rattle.std.specs.List.{sum}
use Rattle.hv_hist.specs.Sums.{running_sums}
use Rattle.hv_hist.proofs.SlotCounts.{cdf-is}
use Rattle.hv_hist.proofs.cdf.Cdf.value.Goals as goal

-- the sums are those of the histogram's counts
pub returns : goal.returns
returns c =
    λ rows h.
    cdf-is c.args.self.now.histogram.axis rows c.args.s.now c.in_ok-histogram.histogram c.in_ok-sums.field-0 h (c.in_ok-histogram.ensures rows h)
    (subst (λ (l : List ℕ). sum l < 2 ^ 64 → c.in_ok-sums.field-0 ≡ running_sums l) c.as_slice.ensures c.in_ok-sums.ensures)
