use Rattle.std.proofs.Common.{◌≡◌, ◌<◌, ◌^◌, take}
use Rattle.std.specs.List.{sum}
use Rattle.hv_heavy.proofs.count_of.first_sum.Given as goal

-- the sum so far, where that of all fits
abbrev pub invariant-loop-count : goal.invariant-loop-count
invariant-loop-count l = sum l.first < 2 ^ 64 → l.total ≡ sum (take l.count-index l.first)
