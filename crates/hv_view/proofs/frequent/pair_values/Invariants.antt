use Rattle.std.proofs.Common.{◌≡◌, take}
use Rattle.hv_view.specs.Frequent.{pair_values}
use Rattle.hv_view.proofs.frequent.pair_values.Given as goal

-- the values of the pairs so far have been copied
abbrev pub invariant-loop-pair : goal.invariant-loop-pair
invariant-loop-pair l = l.values ≡ pair_values (take l.pair-index l.pairs)
