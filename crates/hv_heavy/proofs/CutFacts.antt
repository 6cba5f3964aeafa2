-- The largest of some numbers but k: k + 1 are at or above it, and k at most above it.
use Rattle.std.proofs.Common.{◌≡◌, ◌≤◌, ◌+◌, ◌*◌, ◌++◌, ℕ, List, [], ◌∷◌, Bool, true, false, refl, sym, ap, length, arith, ◌∙◌, nat_le, nat_lt}
use Rattle.std.proofs.Math.Nat.{mul-add, mul_comm}
use Rattle.std.specs.Prelude.{map, sum_by, count_by, if◌then◌else◌, IsPermutation}
use Rattle.std.specs.List.{AllByRecursion}
use Rattle.std.specs.List.Sorted.{IsSplitAround}
use Rattle.std.specs.Ordering.{is_lt, nat_cmp}
use Rattle.std.proofs.lemmas.Bool.{le-leb, ltb-false, ltb-true, true≢false}
use Rattle.std.proofs.lemmas.List.{length-append}
use Rattle.std.proofs.lemmas.List.Elements.{recursion_from_All}
use Rattle.std.proofs.lemmas.List.Sorted.{length_permutation, sum_by-IsPermutation}
use Rattle.std.proofs.lemmas.List.Sums.{count_by-le-length, sum_by-append, sum_by-cons}

-- a sum over mapped elements
pub sum-mapped : {X Y : Type 0} (f : Y → ℕ) (g : X → Y) (xs : List X) → sum_by f (map g xs) ≡ sum_by (λ x. f (g x)) xs
sum-mapped f g [] = refl
sum-mapped f g (x ∷ xs) = omega (arith, sum_by-cons f (g x) (map g xs), sum-mapped f g xs, sum_by-cons (λ x. f (g x)) x xs)

-- a number that doesn't compare as below another isn't below it
not-below : (a b : ℕ) → is_lt (nat_cmp a b) ≡ false → b ≤ a
not-below a b h = by (nat_lt a b) refl
  where
    by : (c : Bool) → nat_lt a b ≡ c → b ≤ a
    by true e = absurd (true≢false (rw e at h))
    by false e = ltb-false a b e

module _ (cut : ℕ) where
  -- what is taken of a number
  abbrev pub at_cut : ℕ → ℕ
  at_cut n = if nat_le cut n then cut else 0

  -- numbers at or above the cut
  back-taken : (back : List ℕ) → AllByRecursion (λ n. cut ≤ n) back → sum_by at_cut back ≡ cut * length back
  back-taken [] all = omega arith
  back-taken (n ∷ back) all =
      let here : at_cut n ≡ cut = ap (λ b. if b then cut else 0) (le-leb cut n all.0) in
      omega (arith, sum_by-cons at_cut n back, here, back-taken back all.1, mul-add cut (length back) 1)

  -- numbers at or below it
  none-over : (front : List ℕ) → AllByRecursion (λ n. n ≤ cut) front → count_by (λ n. nat_lt cut n) front ≡ 0
  none-over [] all = refl
  none-over (n ∷ front) all = by (nat_lt cut n) refl (none-over front all.1)
    where
      by : (b : Bool) → nat_lt cut n ≡ b → count_by (λ n. nat_lt cut n) front ≡ 0 → count_by (λ n. nat_lt cut n) (n ∷ front) ≡ 0
      by true e rest = absurd (omega (arith, all.0, ltb-true cut n e))
      by false e rest = omega (arith, sum_by-cons (λ n. if nat_lt cut n then 1 else 0) n front, ap {B = ℕ} (λ b. if b then 1 else 0) e)

  module _ (numbers front back : List ℕ) (moved : IsPermutation numbers (front ++ cut ∷ back)) (split : IsSplitAround nat_cmp front cut back) where
    high : AllByRecursion (λ n. cut ≤ n) back
    high = recursion_from_All _ back (λ k d within. not-below _ _ (split.1 k d within))

    low : AllByRecursion (λ n. n ≤ cut) front
    low = recursion_from_All _ front (λ k d within. not-below _ _ (split.0 k d within))

    -- how many are behind the cut
    pub behind-cut : length numbers ≡ length front + 1 + length back
    behind-cut = sym (length_permutation numbers (front ++ cut ∷ back) moved) ∙ simp length-append (omega arith)

    pub cut-enough : (length back + 1) * cut ≤ sum_by at_cut numbers
    cut-enough =
        let itself : at_cut cut ≡ cut = ap (λ b. if b then cut else 0) (le-leb cut cut (omega arith)) in
        omega (
          arith,
          sum_by-IsPermutation at_cut numbers (front ++ cut ∷ back) moved,
          sum_by-append at_cut front (cut ∷ back),
          sum_by-cons at_cut cut back,
          itself,
          back-taken back high,
          mul-add cut (length back) 1,
          mul_comm (length back + 1) cut,
        )

    pub cut-few : count_by (λ n. nat_lt cut n) numbers ≤ length back
    cut-few = by (nat_lt cut cut) refl
      where
        by : (b : Bool) → nat_lt cut cut ≡ b → count_by (λ n. nat_lt cut n) numbers ≤ length back
        by true e = absurd (omega (arith, ltb-true cut cut e))
        by false e =
            omega (
              arith,
              sum_by-IsPermutation (λ n. if nat_lt cut n then 1 else 0) numbers (front ++ cut ∷ back) moved,
              sum_by-append (λ n. if nat_lt cut n then 1 else 0) front (cut ∷ back),
              sum_by-cons (λ n. if nat_lt cut n then 1 else 0) cut back,
              ap {B = ℕ} (λ b. if b then 1 else 0) e,
              none-over front low,
              count_by-le-length (λ n. nat_lt cut n) back,
            )
