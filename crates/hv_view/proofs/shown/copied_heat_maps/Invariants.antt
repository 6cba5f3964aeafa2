use Rattle.std.proofs.Common.{◌≡◌, take}
use Rattle.hv_view.proofs.shown.copied_heat_maps.Given as goal

-- the values so far have been copied
abbrev pub invariant-loop-value : goal.invariant-loop-value
invariant-loop-value l = l.copy ≡ take l.value-index l.values
