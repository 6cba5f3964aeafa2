use Rattle.std.proofs.Common.{◌≡◌, ◌<◌, ℕ, [], false, get_or}
use Rattle.std.specs.Prelude.{bytes_eq}
use Rattle.csv.specs.Records.{fields_of}
use Rattle.hv_csv.proofs.header.place_of.Given as goal

-- no field before has the name
abbrev pub invariant-loop-i : goal.invariant-loop-i
invariant-loop-i l = (k : ℕ) → k < l.i → bytes_eq l.name (get_or (fields_of l.header) k []) ≡ false
