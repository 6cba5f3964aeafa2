-- What is left at the overflow of either step and at the end of the digits.
use Rattle.std.proofs.Common.{◌≡◌, ℕ, ◌+◌, ◌*◌, ◌^◌, ◌<◌, ◌≤◌, length, Bool, true, false, List, [], ◌∷◌, Some, None, get_or, refl, arith, sym, ◌∙◌}
use Rattle.std.proofs.lemmas.Bool.{le-ltb, lt-ltb}
use Rattle.std.proofs.lemmas.Str.{digit_value_digit}
use Rattle.std.specs.Prelude.{if◌then◌else◌}
use Rattle.std.specs.Option.{option_and_then}
use Rattle.std.specs.Char.{digit_value}
use Rattle.std.specs.Str.{all_ascii_digits}
use Rattle.std.specs.Str.Parse.{digits_value_after}
use Rattle.hv_value.specs.Number.{fitting_u64}
use Rattle.hv_value.proofs.number.number_of.Invariants.{read_on}
use Rattle.hv_value.proofs.number.number_of.Goals as goal

-- more digits make no smaller number
value-least : (n : ℕ) (ds : List ℕ) → n ≤ digits_value_after 10 n ds
value-least n [] = omega arith
value-least n (d ∷ ds) = omega (arith, value-least (n * 10 + digit_value d) ds)

-- a number that is too large already stays so
over : (n : ℕ) (rest : List ℕ) → 0 < length rest → 2 ^ 64 ≤ n * 10 + digit_value (get_or rest 0 0)
    → option_and_then fitting_u64 (read_on n rest) ≡ None
over n [] some large = absurd (omega arith)
over n (d ∷ ds) some large = by (all_ascii_digits (d ∷ ds)) _ (value-least (n * 10 + digit_value d) ds)
  where
    by : (b : Bool) (v : ℕ) → n * 10 + digit_value d ≤ v → option_and_then fitting_u64 (if b then Some v else None) ≡ None
    by true v least = rw (le-ltb v (2 ^ 64) (omega arith)) refl
    by false v least = refl

-- at the end of the digits it is the number
ended : (n : ℕ) (rest : List ℕ) → length rest < 1 → n < 2 ^ 64 → option_and_then fitting_u64 (read_on n rest) ≡ Some n
ended n [] none fits = rw (lt-ltb n (2 ^ 64) fits) refl
ended n (d ∷ ds) none fits = absurd (omega arith)

pub returns-in_err-checked_mul : goal.returns-in_err-checked_mul
returns-in_err-checked_mul c =
    let large : 2 ^ 64 ≤ c.loop-rest.total * 10 = omega (arith, c.in_err-checked_mul.ensures) in
    let none = over c.loop-rest.total c.loop-rest.rest.now c.in-len1-up.len_at_least (omega arith) in
    rw c.loop-rest.invariant.same (c.from_residual.ensures ∙ sym none)

pub returns-in_err-total : goal.returns-in_err-total
returns-in_err-total c =
    let digit = digit_value_digit (get_or c.loop-rest.rest.now 0 0) c.if-not-is_ascii_digit.ensures.cases in
    let none = over c.loop-rest.total c.loop-rest.rest.now c.in-len1-up.len_at_least
    (omega (arith, digit, c.from.ensures, c.in_ok-checked_mul.ensures, c.in_err-total.ensures)) in
    rw c.loop-rest.invariant.same (c.from_residual-in_err-total.ensures ∙ sym none)

pub returns : goal.returns
returns c = rw c.loop-rest.invariant.same (sym (ended c.loop-rest.total c.loop-rest.rest.now c.in_default.len_below c.loop-rest.invariant.within))
