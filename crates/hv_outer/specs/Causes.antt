-- Why a call of the outside failed, and what its count of faults then is: this project's own rule.
use Rattle.std.specs.Prelude.{ℕ, ◌+◌, ◌-◌, ◌^◌, ◌≤◌, min, Result, Ok, Err, IsErrOf}
use Rattle.hv_outer.specs.declared.io_err.IoErr.{IoErr}
use Rattle.hv_outer.specs.declared.io_err.IoErr.TheVariants.{Failed, Memory}

-- the next value of a 64-bit count, which stands still at its last one
abbrev pub one_more : ℕ → ℕ
one_more count = min (count + 1) (2 ^ 64 - 1)

-- a count of faults rose, or stands at its last value
abbrev pub Rose : ℕ → ℕ → Type 0
Rose before now = one_more before ≤ now

-- a count of faults doesn't fall, and an answer is `Failed` only where the count rose
pub record HasCause {T : Type 0} (before now : ℕ) (result : Result T IoErr) : Type 0 where
  pub later : before ≤ now
  pub failed : IsErrOf result Failed → Rose before now

-- a count of faults after a call failed so: one more for a fault, and the same for want of memory
abbrev pub count_after : ℕ → IoErr → ℕ
count_after count Failed = one_more count
count_after count Memory = count

-- a count of faults after a call answered so
abbrev pub counted : {T : Type 0} → ℕ → Result T IoErr → ℕ
counted count (Ok _) = count
counted count (Err e) = count_after count e
