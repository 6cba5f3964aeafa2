use Rattle.std.proofs.Common.{◌≡◌, ◌<◌, ◌^◌, ℕ, List, Option, Some, None, length}
use Rattle.std.specs.Prelude.{if◌then◌else◌}
use Rattle.std.specs.Str.{all_ascii_digits}
use Rattle.std.specs.Str.Parse.{digits_value_after}
use Rattle.hv_value.specs.Number.{number_of_text}
use Rattle.hv_value.proofs.number.number_of.Given as goal

-- the number that the digits write when they follow those of n
abbrev pub read_on : ℕ → List ℕ → Option ℕ
read_on n ds = if all_ascii_digits ds then Some (digits_value_after 10 n ds) else None

abbrev pub invariant-loop-rest : goal.invariant-loop-rest
invariant-loop-rest l = record { same : number_of_text l.digits ≡ read_on l.total l.rest; within : l.total < 2 ^ 64 }

abbrev pub decreases-loop-rest : goal.decreases-loop-rest
decreases-loop-rest l = length l.rest
