-- Causes over several calls: a count of faults that rose in one of them rose in all of them together.
use Rattle.std.proofs.Common.{ℕ, ◌≤◌, Result, Ok, Err, OnErr, arith}
use Rattle.hv_outer.specs.declared.io_err.IoErr.{IoErr}
use Rattle.hv_outer.specs.Causes.{Rose, HasCause}

-- the count rose in the first of two calls
pub Rose-then : (a b c : ℕ) → Rose a b → b ≤ c → Rose a c
Rose-then a b c rose later = omega arith

-- the count rose in the second of two calls
pub Rose-after : (a b c : ℕ) → a ≤ b → Rose b c → Rose a c
Rose-after a b c later rose = omega arith

-- the answer of the first call is that of both
pub HasCause-then : {T : Type 0} (a b c : ℕ) (r : Result T IoErr) → HasCause a b r → b ≤ c → HasCause a c r
HasCause-then a b c r h later = record { later = omega arith; failed = λ is. Rose-then a b c (h.failed is) later }

-- the answer of the second call is that of both
pub HasCause-after : {T : Type 0} (a b c : ℕ) (r : Result T IoErr) → a ≤ b → HasCause b c r → HasCause a c r
HasCause-after a b c r later h = record { later = omega arith; failed = λ is. Rose-after a b c later (h.failed is) }

-- what holds in any case holds of an error
pub on_err_any : {T E P : Type 0} (r : Result T E) → P → OnErr r P
on_err_any (Ok x) p = tt
on_err_any (Err e) p = p
