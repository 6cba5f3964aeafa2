-- a * x + b is a number of 128 bits.
use Rattle.std.proofs.Common.{◌≡◌, ℕ, suc, ◌-◌, ◌*◌, ◌^◌, ◌≤◌, true, ℤ, pos, negsuc, neg_ℤ, ◌+ℤ◌, ◌*ℤ◌, ◌≤ℤ◌, ◌∙◌, int_le, FitsSigned, arith, refl, w64, of_z, to_z}
use Rattle.std.proofs.lemmas.Bool.{and_parts}
use Rattle.std.proofs.lemmas.Int.{ints}
use Rattle.std.proofs.Math.Facts.{to_z-of_z}
use Rattle.std.proofs.Math.Nat.{mul-le-mul_left, mul-le-mul_right}
use mir.Syntax.{w128}
use Rattle.hv_expr.specs.Checks.{is_fit_factor}
use Rattle.hv_expr.proofs.IntTests.{test-true}

-- what the test of a factor says
factor-bounds : (a : ℤ) → is_fit_factor a ≡ true → (neg_ℤ (pos (2 ^ 63)) ≤ℤ a) × (a ≤ℤ pos (2 ^ 64 - 1))
factor-bounds a fit =
    let both = and_parts (int_le (neg_ℤ (pos (2 ^ 63))) a) (int_le a (pos (2 ^ 64 - 1))) fit in
    (test-true (neg_ℤ (pos (2 ^ 63))) a both.0, test-true a (pos (2 ^ 64 - 1)) both.1)

-- a product of numbers within limits is within their product
product : (m n a b : ℕ) → m ≤ a → n ≤ b → m * n ≤ a * b
product m n a b first second = omega (arith, mul-le-mul_right n first, mul-le-mul_left a second)

product-bounds : (a x : ℤ) → is_fit_factor a ≡ true → FitsSigned w64 x
    → (neg_ℤ (pos ((2 ^ 64 - 1) * 2 ^ 63)) ≤ℤ (a *ℤ x)) × ((a *ℤ x) ≤ℤ pos ((2 ^ 64 - 1) * (2 ^ 63 - 1)))
product-bounds (pos a) (pos x) fit fits =
    let bounds = factor-bounds (pos a) fit in
    let most = product a x (2 ^ 64 - 1) (2 ^ 63 - 1) (omega (arith, ints, bounds)) (omega (arith, ints, fits)) in
    (omega (arith, ints, most), omega (arith, ints, most))
product-bounds (pos a) (negsuc x) fit fits =
    let bounds = factor-bounds (pos a) fit in
    let most = product a (suc x) (2 ^ 64 - 1) (2 ^ 63) (omega (arith, ints, bounds)) (omega (arith, ints, fits)) in
    (omega (arith, ints, most), omega (arith, ints, most))
product-bounds (negsuc a) (pos x) fit fits =
    let bounds = factor-bounds (negsuc a) fit in
    let most = product (suc a) x (2 ^ 63) (2 ^ 63) (omega (arith, ints, bounds)) (omega (arith, ints, fits)) in
    (omega (arith, ints, most), omega (arith, ints, most))
product-bounds (negsuc a) (negsuc x) fit fits =
    let bounds = factor-bounds (negsuc a) fit in
    let most = product (suc a) (suc x) (2 ^ 63) (2 ^ 63) (omega (arith, ints, bounds)) (omega (arith, ints, fits)) in
    (omega (arith, ints, most), omega (arith, ints, most))

pub product-fits : (a x : ℤ) → is_fit_factor a ≡ true → FitsSigned w64 x → FitsSigned w128 (a *ℤ x)
product-fits a x fit fits = let bounds = product-bounds a x fit fits in omega (arith, ints, bounds)

pub line-fits : (a b x : ℤ) → is_fit_factor a ≡ true → is_fit_factor b ≡ true → FitsSigned w64 x → FitsSigned w128 (a *ℤ x +ℤ b)
line-fits a b x fit fit_b fits =
    let bounds = product-bounds a x fit fits in
    let summand = factor-bounds b fit_b in
    omega (arith, ints, bounds, summand)

-- the sum as it is computed, by the bits of its parts
pub line-computed : (a b x wide : ℤ) → is_fit_factor a ≡ true → FitsSigned w128 a → FitsSigned w128 b → FitsSigned w64 x → wide ≡ to_z w64 (of_z w64 x)
    → to_z w128 (of_z w128 (to_z w128 (of_z w128 a) *ℤ to_z w128 (of_z w128 wide))) +ℤ to_z w128 (of_z w128 b) ≡ a *ℤ x +ℤ b
line-computed a b x wide fit fits_a fits_b fits_x is =
    let same : wide ≡ x = is ∙ to_z-of_z fits_x in
    let fits_wide : FitsSigned w128 x = omega (arith, ints, fits_x) in
    let fits_product : FitsSigned w128 (a *ℤ x) = product-fits a x fit fits_x in
    rw (same, to_z-of_z fits_a, to_z-of_z fits_b, to_z-of_z fits_wide, to_z-of_z fits_product) refl
