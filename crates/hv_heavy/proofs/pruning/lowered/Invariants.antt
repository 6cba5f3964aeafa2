use Rattle.std.proofs.Common.{◌≡◌, ◌++◌}
use Rattle.std.specs.Vec.Iter.{into_iter_items}
use Rattle.hv_heavy.specs.Pairs.{lowered}
use Rattle.hv_heavy.proofs.pruning.lowered.Given as goal

-- the pairs so far have been lowered
abbrev pub invariant-loop-pair : goal.invariant-loop-pair
invariant-loop-pair l = l.kept ++ lowered l.less (into_iter_items l.pair-iterator) ≡ lowered l.less l.fn.pairs.items
