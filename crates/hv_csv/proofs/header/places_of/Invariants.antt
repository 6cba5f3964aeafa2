use Rattle.std.proofs.Common.{◌≡◌, map, take}
use Rattle.csv.specs.Records.{fields_of}
use Rattle.hv_csv.specs.Fill.{place_in}
use Rattle.hv_csv.proofs.header.places_of.Given as goal

-- the columns before have their places
abbrev pub invariant-loop-j : goal.invariant-loop-j
invariant-loop-j l = l.places.items ≡ map (place_in (fields_of l.header)) (take l.j l.schema)
