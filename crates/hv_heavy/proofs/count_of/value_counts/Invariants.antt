use Rattle.std.proofs.Common.{◌≡◌, take, map}
use Rattle.hv_heavy.specs.CountOf.{value_count}
use Rattle.hv_heavy.proofs.count_of.value_counts.Given as goal

-- the counts of the values so far
abbrev pub invariant-loop-value : goal.invariant-loop-value
invariant-loop-value l = l.made ≡ map (value_count l.places l.counts) (take l.value-index l.values)
