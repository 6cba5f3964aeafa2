-- The test of an order of whole numbers, and what it says.
use Rattle.std.proofs.Common.{◌≡◌, Bool, true, false, ℤ, ◌≤ℤ◌, ◌<ℤ◌, int_le, T, refl, sym, subst, inl, inr, arith}
use Rattle.std.proofs.lemmas.Bool.{cases_Bool}
use Rattle.jiff_core.proofs.SignedLemmas.{signed_arith}

-- a fact as its test
pub tested : (b : Bool) → T b → b ≡ true
tested true t = refl
tested false t = absurd t

-- what the test says of its sides
pub test-true : (a b : ℤ) → int_le a b ≡ true → a ≤ℤ b
test-true a b e = record { le = subst T (sym e) tt }

pub test-false : (a b : ℤ) → b <ℤ a → int_le a b ≡ false
test-false a b less = elim (cases_Bool (int_le a b)) [
  | inl e ↦ (let le = test-true a b e in absurd (omega (arith, signed_arith, le, less)))
  | inr e ↦ e
]
