use Rattle.std.proofs.Common.{◌≡◌, ◌++◌, length, true}
use Rattle.std.specs.List.{list_all}
use Rattle.hv_asked.specs.Constants.{fits_cell}
use Rattle.hv_asked.specs.Flaws.{all_meant, map_ok}
use Rattle.hv_asked.specs.Values.{value_beside}
use Rattle.hv_asked.proofs.values.values_beside.Given as goal

-- all are those found and then those of the rest
abbrev pub invariant-loop-rest : goal.invariant-loop-rest
invariant-loop-rest l =
    (all_meant (value_beside l.kind) l.asked ≡ map_ok (λ more. l.found ++ more) (all_meant (value_beside l.kind) l.rest))
    × (list_all fits_cell l.rest ≡ true)

abbrev pub decreases-loop-rest : goal.decreases-loop-rest
decreases-loop-rest l = length l.rest
