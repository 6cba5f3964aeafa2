use Rattle.std.proofs.Common.{take}
use Rattle.hv_heavy.specs.ValuePlaces.{AreMapped}
use Rattle.hv_heavy.proofs.places.PlaceMaps.of.Given as goal

-- the maps have the places of the values so far
abbrev pub invariant-loop-place : goal.invariant-loop-place
invariant-loop-place l = AreMapped (take l.place l.values) l.maps
