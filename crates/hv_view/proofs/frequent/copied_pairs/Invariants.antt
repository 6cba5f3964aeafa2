use Rattle.std.proofs.Common.{◌≡◌, take}
use Rattle.hv_view.proofs.frequent.copied_pairs.Given as goal

-- the pairs so far have been copied
abbrev pub invariant-loop-pair : goal.invariant-loop-pair
invariant-loop-pair l = l.copy ≡ take l.pair-index l.pairs
