-- A rising list, walked from its first number to the next one.
use Rattle.std.proofs.Common.{◌≡◌, ◌≤◌, ◌<◌, ◌+◌, ℕ, List, [], ◌∷◌, Bool, true, false, Some, None, refl, ap, arith}
use Rattle.std.specs.Prelude.{filter, nat_le, if◌then◌else◌}
use Rattle.std.specs.List.{AllByRecursion}
use Rattle.std.proofs.lemmas.Bool.{le-leb, leb-true, leb-false, lt-leb}
use Rattle.hv_member.specs.Sets.{IsBelow, IsRising, IsSetBelow, next_from}

-- what of a list isn't below a number
abbrev pub rest_from : ℕ → List ℕ → List ℕ
rest_from from xs = filter (λ x. nat_le from x) xs

pub rest-zero : (xs : List ℕ) → rest_from 0 xs ≡ xs
rest-zero [] = refl
rest-zero (x ∷ xs) = rw (le-leb 0 x (omega arith)) (ap (λ r. x ∷ r) (rest-zero xs))

-- numbers that are all above one stay
rest-all : (below from : ℕ) (xs : List ℕ) → from ≤ below + 1 → AllByRecursion (λ y. below < y) xs → rest_from from xs ≡ xs
rest-all below from [] next above = refl
rest-all below from (x ∷ xs) next above = rw (le-leb from x (omega (arith, above.0))) (ap (λ r. x ∷ r) (rest-all below from xs next above.1))

pub rest-none : (from : ℕ) (xs : List ℕ) → next_from from xs ≡ None → rest_from from xs ≡ []
rest-none from [] e = refl
rest-none from (x ∷ xs) e = by (nat_le from x) e (rest-none from xs)
  where
    by : (t : Bool) → (if t then Some x else next_from from xs) ≡ None → (next_from from xs ≡ None → rest_from from xs ≡ [])
        → (if t then x ∷ rest_from from xs else rest_from from xs) ≡ []
    by true f later = absurd (cc f)
    by false f later = later f

-- the next number isn't below where it was looked for
next-at_least : (from : ℕ) (xs : List ℕ) (p : ℕ) → next_from from xs ≡ Some p → from ≤ p
next-at_least from [] p e = absurd (cc e)
next-at_least from (x ∷ xs) p e = by (nat_le from x) refl e (next-at_least from xs p)
  where
    by : (t : Bool) → nat_le from x ≡ t → (if t then Some x else next_from from xs) ≡ Some p → (next_from from xs ≡ Some p → from ≤ p) → from ≤ p
    by true here f later = let same : x ≡ p = cc f in omega (arith, leb-true from x here)
    by false here f later = later f

next-below : (size from : ℕ) (xs : List ℕ) (p : ℕ) → IsBelow size xs → next_from from xs ≡ Some p → p < size
next-below size from [] p below e = absurd (cc e)
next-below size from (x ∷ xs) p below e = by (nat_le from x) e (next-below size from xs p below.1)
  where
    by : (t : Bool) → (if t then Some x else next_from from xs) ≡ Some p → (next_from from xs ≡ Some p → p < size) → p < size
    by true f later = let same : x ≡ p = cc f in omega (arith, below.0)
    by false f later = later f

-- it comes first of those that are left, and the others after it
next-first : (from : ℕ) (xs : List ℕ) (p : ℕ) → IsRising xs → next_from from xs ≡ Some p → rest_from from xs ≡ p ∷ rest_from (p + 1) xs
next-first from [] p rising e = absurd (cc e)
next-first from (x ∷ xs) p rising e = by (nat_le from x) refl e (next-first from xs p rising.1)
  where
    by : (t : Bool) → nat_le from x ≡ t → (if t then Some x else next_from from xs) ≡ Some p
        → (next_from from xs ≡ Some p → rest_from from xs ≡ p ∷ rest_from (p + 1) xs)
        → (if t then x ∷ rest_from from xs else rest_from from xs) ≡ p ∷ (if nat_le (p + 1) x then x ∷ rest_from (p + 1) xs else rest_from (p + 1) xs)
    by true here f later =
        let same : x ≡ p = cc f in
        let low : from ≤ x = leb-true from x here in
        rw (← same, lt-leb (x + 1) x (omega arith), rest-all x from xs (omega arith) rising.0, rest-all x (x + 1) xs (omega arith) rising.0) refl
    by false here f later =
        let low : x < from = leb-false from x here in
        let high : from ≤ p = next-at_least from xs p f in
        rw (lt-leb (p + 1) x (omega arith)) (later f)

-- one step of the walk over a set
pub record Stepped (size from p : ℕ) (xs : List ℕ) : Type 0 where
  pub low : from ≤ p
  pub high : p < size
  pub first : rest_from from xs ≡ p ∷ rest_from (p + 1) xs

pub step_to : (size from : ℕ) (xs : List ℕ) (p : ℕ) → IsSetBelow size xs → next_from from xs ≡ Some p → Stepped size from p xs
step_to size from xs p set e = record {
  low = next-at_least from xs p e;
  high = next-below size from xs p set.below e;
  first = next-first from xs p set.rising e;
}
