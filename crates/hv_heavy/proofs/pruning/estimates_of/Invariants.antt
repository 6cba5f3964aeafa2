use Rattle.std.proofs.Common.{◌≡◌, take}
use Rattle.std.specs.Prelude.{map}
use Rattle.hv_heavy.specs.declared.summary.HeavyPair.{HeavyPair}
use Rattle.hv_heavy.proofs.pruning.estimates_of.Given as goal

-- the estimates so far
abbrev pub invariant-loop-pair : goal.invariant-loop-pair
invariant-loop-pair l = l.estimates.items ≡ map (λ (pair : HeavyPair). pair.estimate) (take l.pair-index l.pairs)
