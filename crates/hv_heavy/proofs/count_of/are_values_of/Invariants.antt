use Rattle.std.proofs.Common.{◌≡◌, length}
use Rattle.std.specs.List.{list_all}
use Rattle.hv_heavy.specs.CountOf.{is_value_of}
use Rattle.hv_heavy.proofs.count_of.are_values_of.Given as goal

-- what is left of the values decides
abbrev pub invariant-loop-rest : goal.invariant-loop-rest
invariant-loop-rest l = list_all (is_value_of l.kind) l.values ≡ list_all (is_value_of l.kind) l.rest

abbrev pub decreases-loop-rest : goal.decreases-loop-rest
decreases-loop-rest l = length l.rest
