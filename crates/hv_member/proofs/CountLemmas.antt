-- How many numbers the combinations of sets have.
use Rattle.std.proofs.Common.{◌≡◌, ℕ, suc, ◌+◌, ◌<◌, ◌≤◌, Bool, true, false, not, ◌&&◌, cond, eqb, ltb, List, [], ◌∷◌, length, refl, sym, ap, ◌∙◌, inl, inr, arith}
use Rattle.std.proofs.lemmas.Bool.{cases_Bool, eqb-true, ltb-true, ltb-false, or_parts, not_from_true, not_from_false, both_ways, and_from, and_parts}
use Rattle.std.proofs.lemmas.List.Filters.{length-filter_both}
use Rattle.hv_member.specs.Sets.{is_in, IsRising, inserted, removed, joined, common, minus, is_within, exceeds}
use Rattle.hv_member.proofs.MembershipLemmas.{same_tests, filter-agree, removed-absent, is_in-first, is_in-rest, is_in-inserted, is_in-common, is_in-minus, is_within-in, is_within-from}
use Rattle.hv_member.proofs.RisingLemmas.{first_once, same_rising, IsRising-inserted, IsRising-filter}

-- to insert a number that is there changes nothing
pub inserted-there : (x : ℕ) (xs : List ℕ) → IsRising xs → is_in x xs ≡ true → inserted x xs ≡ xs
inserted-there x xs rising there =
    same_rising (inserted x xs) xs (IsRising-inserted x xs rising) rising (λ z. is_in-inserted z x xs ∙ (elim (cases_Bool (eqb z x)) [
      | inl same ↦ rw same (sym (ap (λ t. is_in t xs) (eqb-true z x same) ∙ there))
      | inr other ↦ rw other refl
    ]))

new_cases : (x y : ℕ) (ys : List ℕ) (a b : Bool) → eqb x y ≡ b → is_in x (y ∷ ys) ≡ false → length (inserted x ys) ≡ length ys + 1
    → length (cond a (y ∷ inserted x ys) (cond b (y ∷ ys) (x ∷ y ∷ ys))) ≡ length (y ∷ ys) + 1
new_cases x y ys true b same none rest = omega arith
new_cases x y ys false true same none rest = absurd (both_ways (eqb x y) (or_parts (eqb x y) _ none).0 same)
new_cases x y ys false false same none rest = omega arith

-- one that isn't is one more
pub length-inserted : (x : ℕ) (xs : List ℕ) → is_in x xs ≡ false → length (inserted x xs) ≡ length xs + 1
length-inserted x [] none = omega arith
length-inserted x (y ∷ ys) none =
    new_cases x y ys (ltb y x) (eqb x y) refl none (length-inserted x ys (or_parts (eqb x y) _ none).1)

-- what is in both and what is in the first alone make up the first
pub length-common_minus : (xs ys : List ℕ) → length (common xs ys) + length (minus xs ys) ≡ length xs
length-common_minus xs ys = length-filter_both (λ x. is_in x ys) (λ x. not (is_in x ys)) (λ x. refl) xs

-- what is in both is the same either way round
pub common-swap : (xs ys : List ℕ) → IsRising xs → IsRising ys → common xs ys ≡ common ys xs
common-swap xs ys one two =
    same_rising (common xs ys) (common ys xs) (IsRising-filter (λ x. is_in x ys) xs one) (IsRising-filter (λ x. is_in x xs) ys two)
    (λ z. is_in-common z xs ys ∙ and_swap (is_in z ys) (is_in z xs) ∙ sym (is_in-common z ys xs))
  where
    and_swap : (a b : Bool) → (a && b) ≡ (b && a)
    and_swap true true = refl
    and_swap true false = refl
    and_swap false true = refl
    and_swap false false = refl

-- what is in a list, and one more number that is in none of the other
minus-without : (y : ℕ) (xs ys : List ℕ) → is_in y ys ≡ false → minus ys (inserted y xs) ≡ minus ys xs
minus-without y xs ys none =
    filter-agree (λ z. not (is_in z (inserted y xs))) (λ z. not (is_in z xs)) ys
    (λ z there. ap not (is_in-inserted z y xs ∙ (elim (cases_Bool (eqb z y)) [
      | inl same ↦ absurd (both_ways (is_in z ys) (ap (λ t. is_in t ys) (eqb-true z y same) ∙ none) there)
      | inr other ↦ rw other refl
    ])))

joined_cases : (y : ℕ) (xs ys : List ℕ) (b : Bool) → is_in y xs ≡ b → IsRising xs → IsRising (y ∷ ys)
    → length (joined (inserted y xs) ys) ≡ length (inserted y xs) + length (minus ys (inserted y xs))
    → length (joined (inserted y xs) ys) ≡ length xs + length (cond (not b) (y ∷ minus ys xs) (minus ys xs))
joined_cases y xs ys true there one two rest =
    let same : inserted y xs ≡ xs = inserted-there y xs one there in
    rest ∙ ap (λ t. length t + length (minus ys t)) same
joined_cases y xs ys false new one two rest =
    let more : length (inserted y xs) ≡ length xs + 1 = length-inserted y xs new in
    let same : minus ys (inserted y xs) ≡ minus ys xs = minus-without y xs ys (first_once y ys two) in
    let sizes : length (minus ys (inserted y xs)) ≡ length (minus ys xs) = ap length same in
    omega arith

-- the union has the first, and what of the second isn't in it
length-joined : (xs ys : List ℕ) → IsRising xs → IsRising ys → length (joined xs ys) ≡ length xs + length (minus ys xs)
length-joined xs [] one two = omega arith
length-joined xs (y ∷ ys) one two =
    joined_cases y xs ys (is_in y xs) refl one two (length-joined (inserted y xs) ys (IsRising-inserted y xs one) two.1)

-- the union and what is in both have as many as the two sets
pub length-joined_common : (xs ys : List ℕ) → IsRising xs → IsRising ys
    → length (joined xs ys) + length (common xs ys) ≡ length xs + length ys
length-joined_common xs ys one two =
    let all : length (joined xs ys) ≡ length xs + length (minus ys xs) = length-joined xs ys one two in
    let parts : length (common ys xs) + length (minus ys xs) ≡ length ys = length-common_minus ys xs in
    let same : length (common xs ys) ≡ length (common ys xs) = ap length (common-swap xs ys one two) in
    omega arith

-- ---- a set that exceeds another

-- of a set, what is in one that has all of it is the set
common-within : (xs ys : List ℕ) → is_within xs ys ≡ true → common xs ys ≡ xs
common-within xs ys within = whole xs (λ x there. is_within-in xs ys within x there)
  where
    whole : (zs : List ℕ) → ((x : ℕ) → is_in x zs ≡ true → is_in x ys ≡ true) → common zs ys ≡ zs
    whole [] each = refl
    whole (z ∷ zs) each =
        rw (each z (is_in-first z zs)) (ap (λ t. z ∷ t) (whole zs (λ x there. each x (is_in-rest x z zs there))))

-- a set within another has no more numbers
pub length-within : (xs ys : List ℕ) → IsRising xs → IsRising ys → is_within xs ys ≡ true → length xs ≤ length ys
length-within xs ys one two within =
    let same : length (common ys xs) ≡ length xs = ap length (common-swap ys xs two one ∙ common-within xs ys within) in
    let parts : length (common ys xs) + length (minus ys xs) ≡ length ys = length-common_minus ys xs in
    omega arith

-- and where it has as many, the other is within it
pub within-same_length : (xs ys : List ℕ) → IsRising xs → IsRising ys → is_within xs ys ≡ true → length ys ≤ length xs → xs ≡ ys
within-same_length xs ys one two within many =
    let same : common ys xs ≡ xs = common-swap ys xs two one ∙ common-within xs ys within in
    let parts : length (common ys xs) + length (minus ys xs) ≡ length ys = length-common_minus ys xs in
    let sizes : length (common ys xs) ≡ length xs = ap length same in
    let none : length (minus ys xs) ≡ 0 = omega arith in
    same_rising xs ys one two (λ z. same_tests (is_in z xs) (is_in z ys) (λ there. is_within-in xs ys within z there)
    (λ there. elim (cases_Bool (is_in z xs)) [
      | inl inside ↦ inside
      | inr outside ↦ absurd (some_in (minus ys xs) z none (is_in-minus z ys xs ∙ rw (outside, there) refl))
    ]))
  where
    some_in : (zs : List ℕ) (z : ℕ) → length zs ≡ 0 → is_in z zs ≡ true → ⊥
    some_in [] z none there = both_ways false refl there
    some_in (y ∷ zs) z none there = omega arith

-- a set exceeds another where that is within it and has fewer numbers
pub exceeds-length : (xs ys : List ℕ) → IsRising xs → IsRising ys → exceeds xs ys ≡ (ltb (length ys) (length xs) && is_within ys xs)
exceeds-length xs ys one two =
    same_tests (exceeds xs ys) (ltb (length ys) (length xs) && is_within ys xs)
    (λ more.
    let parts = and_parts (is_within ys xs) _ more in
    let order : length ys ≤ length xs = length-within ys xs two one parts.0 in
    and_from _ _ (elim (cases_Bool (ltb (length ys) (length xs))) [
      | inl less ↦ less
      | inr same ↦
          absurd (both_ways (not (is_within xs ys))
          (not_from_true _ (is_within-from xs ys (λ z there. rw (within-same_length ys xs two one parts.0 (ltb-false (length ys) (length xs) same)) there)))
          parts.1)
    ]) parts.0)
    (λ fewer.
    let parts = and_parts (ltb (length ys) (length xs)) _ fewer in
    let less : length ys < length xs = ltb-true (length ys) (length xs) parts.0 in
    and_from (is_within ys xs) _ parts.1 (elim (cases_Bool (is_within xs ys)) [
      | inl back ↦ absurd (let order : length xs ≤ length ys = length-within xs ys one two back in omega arith)
      | inr outside ↦ not_from_false _ outside
    ]))

-- ---- one number less

-- a list loses what it has of a number
removed_cases : (x y : ℕ) (ys : List ℕ) (b : Bool) → eqb x y ≡ b → IsRising (y ∷ ys) → is_in x (y ∷ ys) ≡ true
    → (is_in x ys ≡ true → length (removed x ys) + 1 ≡ length ys)
    → length (cond (not b) (y ∷ removed x ys) (removed x ys)) + 1 ≡ suc (length ys)
removed_cases x y ys true same rising there rest =
    let first : x ≡ y = eqb-true x y same in
    let none : is_in x ys ≡ false = rw first (first_once y ys rising) in
    let whole : removed x ys ≡ ys = removed-absent x ys none in
    let sizes : length (removed x ys) ≡ length ys = ap length whole in
    omega arith
removed_cases x y ys false other rising there rest =
    let inside : is_in x ys ≡ true = rw other at there in
    let less : length (removed x ys) + 1 ≡ length ys = rest inside in
    omega arith

-- a set without one of its numbers has one less
pub length-removed : (x : ℕ) (xs : List ℕ) → IsRising xs → is_in x xs ≡ true → length (removed x xs) + 1 ≡ length xs
length-removed x [] rising there = absurd (both_ways false refl there)
length-removed x (y ∷ ys) rising there =
    removed_cases x y ys (eqb x y) refl rising there (length-removed x ys rising.1)
