-- Lists that rise: what keeps them so, that each is the only one with its members, and how long they are.
use Rattle.std.proofs.Common.{◌≡◌, ℕ, zero, suc, ◌+◌, ◌-◌, ◌<◌, ◌≤◌, Bool, true, false, not, cond, eqb, ltb, List, [], ◌∷◌, ◌++◌, length, refl, sym, ap, ◌∙◌, inl, inr, arith}
use Rattle.std.proofs.lemmas.Bool.{cases_Bool, eqb-true, eqb-false, eq-eqb, ne_eqb, ltb-true, ltb-false, lt-ltb, or_cases, or_from, both_ways}
use Rattle.std.proofs.lemmas.List.FromFn.{length-range_with_len}
use Rattle.std.specs.List.{AllByRecursion, filter, range_with_len}
use Rattle.hv_member.specs.Sets.{is_in, IsRising, IsBelow, IsSetBelow, inserted, removed, joined, common, minus, has_all, numbers}
use Rattle.hv_member.proofs.MembershipLemmas.{same_tests, is_in-first, is_in-rest, is_in-inserted, is_in-filter, is_in-numbers, is_within-in, is_within-from}

-- ---- what holds of all numbers of a list

-- what holds of all holds of each
pub all-in : (P : ℕ → Type 0) (xs : List ℕ) → AllByRecursion P xs → (x : ℕ) → is_in x xs ≡ true → P x
all-in P [] all x there = absurd (both_ways false refl there)
all-in P (y ∷ ys) all x there =
    elim (or_cases (eqb x y) _ there) [
      | inl first ↦ rw (eqb-true x y first) all.0
      | inr later ↦ all-in P ys all.1 x later
    ]

-- and the other way round
pub all-from : (P : ℕ → Type 0) (xs : List ℕ) → ((x : ℕ) → is_in x xs ≡ true → P x) → AllByRecursion P xs
all-from P [] each = tt
all-from P (y ∷ ys) each = (each y (is_in-first y ys), all-from P ys (λ x there. each x (is_in-rest x y ys there)))

-- a number that isn't above the first isn't in the rest
not_in_rest : (x y : ℕ) (ys : List ℕ) → AllByRecursion (λ z. y < z) ys → x ≤ y → is_in x ys ≡ false
not_in_rest x y [] above low = refl
not_in_rest x y (z ∷ zs) above low =
    let first : y < z = above.0 in
    or_from (eqb x z) _ (ne_eqb x z (λ same. omega arith)) (not_in_rest x y zs above.1 low)

-- the first number isn't in the rest
pub first_once : (x : ℕ) (xs : List ℕ) → IsRising (x ∷ xs) → is_in x xs ≡ false
first_once x xs rising = not_in_rest x x xs rising.0 (omega arith)

-- a number below the first is in no place
pub not_below_first : (x y : ℕ) (ys : List ℕ) → IsRising (y ∷ ys) → x < y → is_in x (y ∷ ys) ≡ false
not_below_first x y ys rising low =
    or_from (eqb x y) _ (ne_eqb x y (λ same. omega arith)) (not_in_rest x y ys rising.0 (omega arith))

-- ---- lists that rise

-- a filter leaves a list rising
pub IsRising-filter : (p : ℕ → Bool) (xs : List ℕ) → IsRising xs → IsRising (filter p xs)
IsRising-filter p [] rising = tt
IsRising-filter p (y ∷ ys) rising = kept (p y) (IsRising-filter p ys rising.1)
  where
    kept : (b : Bool) → IsRising (filter p ys) → IsRising (cond b (y ∷ filter p ys) (filter p ys))
    kept true rest = (
      all-from (λ z. y < z) (filter p ys) (λ z there.
          all-in (λ w. y < w) ys rising.0 z (elim (cases_Bool (p z)) [
            | inl passes ↦ sym (rw passes at (is_in-filter p z ys)) ∙ there
            | inr fails ↦ absurd (both_ways (is_in z (filter p ys)) (rw fails at (is_in-filter p z ys)) there)
          ])),
      rest,
    )
    kept false rest = rest

insert_cases : (x y : ℕ) (ys : List ℕ) (a b : Bool) → ltb y x ≡ a → eqb x y ≡ b → IsRising (y ∷ ys) → IsRising (inserted x ys)
    → IsRising (cond a (y ∷ inserted x ys) (cond b (y ∷ ys) (x ∷ y ∷ ys)))
insert_cases x y ys true b less same rising rest =
    let below : y < x = ltb-true y x less in (
      all-from (λ z. y < z) (inserted x ys) (λ z there.
          elim (or_cases (eqb z x) _ (sym (is_in-inserted z x ys) ∙ there)) [
            | inl new ↦ let e : z ≡ x = eqb-true z x new in omega arith
            | inr old ↦ all-in (λ w. y < w) ys rising.0 z old
          ]),
      rest,
    )
insert_cases x y ys false true less same rising rest = rising
insert_cases x y ys false false less same rising rest =
    let above : x ≤ y = ltb-false y x less in
    let other : x ≡ y → ⊥ = eqb-false x y same in
    let below : x < y = omega arith in
    ((below, all-from (λ z. x < z) ys (λ z there. let far : y < z = all-in (λ w. y < w) ys rising.0 z there in omega arith)), rising)

-- an insert leaves a list rising
pub IsRising-inserted : (x : ℕ) (xs : List ℕ) → IsRising xs → IsRising (inserted x xs)
IsRising-inserted x [] rising = (tt, tt)
IsRising-inserted x (y ∷ ys) rising =
    insert_cases x y ys (ltb y x) (eqb x y) refl refl rising (IsRising-inserted x ys rising.1)

-- so does a union
pub IsRising-joined : (xs ys : List ℕ) → IsRising xs → IsRising (joined xs ys)
IsRising-joined xs [] rising = rising
IsRising-joined xs (y ∷ ys) rising = IsRising-joined (inserted y xs) ys (IsRising-inserted y xs rising)

-- a run of numbers rises, from its first on
run_above : (a b n : ℕ) → a < b → AllByRecursion (λ z. a < z) (range_with_len b n)
run_above a b zero low = tt
run_above a b (suc n) low = (low, run_above a (b + 1) n (omega arith))

pub IsRising-run : (a n : ℕ) → IsRising (range_with_len a n)
IsRising-run a zero = tt
IsRising-run a (suc n) = (run_above a (a + 1) n (omega arith), IsRising-run (a + 1) n)

-- all the numbers below n rise
pub IsRising-numbers : (n : ℕ) → IsRising (numbers n)
IsRising-numbers n = IsRising-run 0 n

-- one more at the end, above all
pub IsRising-push : (xs : List ℕ) (x : ℕ) → IsRising xs → IsBelow x xs → IsRising (xs ++ x ∷ [])
IsRising-push [] x rising below = (tt, tt)
IsRising-push (y ∷ ys) x rising below =
    (pushed ys rising.0, IsRising-push ys x rising.1 below.1)
  where
    pushed : (zs : List ℕ) → AllByRecursion (λ z. y < z) zs → AllByRecursion (λ z. y < z) (zs ++ x ∷ [])
    pushed [] above = (below.0, tt)
    pushed (z ∷ zs) above = (above.0, pushed zs above.1)

-- ---- two rising lists with the same members are one

firsts : (x y : ℕ) (xs ys : List ℕ) → IsRising (x ∷ xs) → IsRising (y ∷ ys)
    → ((z : ℕ) → is_in z (x ∷ xs) ≡ is_in z (y ∷ ys)) → y ≤ x
firsts x y xs ys one two same =
    elim (cases_Bool (ltb x y)) [
      | inl less ↦
          absurd (both_ways (is_in x (y ∷ ys)) (not_below_first x y ys two (ltb-true x y less)) (sym (same x) ∙ is_in-first x xs))
      | inr more ↦ ltb-false x y more
    ]

rests : (x y : ℕ) (xs ys : List ℕ) → IsRising (x ∷ xs) → IsRising (y ∷ ys)
    → ((z : ℕ) → is_in z (x ∷ xs) ≡ is_in z (y ∷ ys)) → x ≡ y → (z : ℕ) → is_in z xs ≡ true → is_in z ys ≡ true
rests x y xs ys one two same first z there =
    let above : x < z = all-in (λ w. x < w) xs one.0 z there in
    elim (or_cases (eqb z y) _ (sym (same z) ∙ is_in-rest z x xs there)) [
      | inl again ↦ let e : z ≡ y = eqb-true z y again in absurd (omega arith)
      | inr later ↦ later
    ]

-- a rising list is known by its members
pub same_rising : (xs ys : List ℕ) → IsRising xs → IsRising ys → ((z : ℕ) → is_in z xs ≡ is_in z ys) → xs ≡ ys
same_rising [] [] one two same = refl
same_rising [] (y ∷ ys) one two same = absurd (both_ways false refl (same y ∙ is_in-first y ys))
same_rising (x ∷ xs) [] one two same = absurd (both_ways false refl (sym (same x) ∙ is_in-first x xs))
same_rising (x ∷ xs) (y ∷ ys) one two same =
    let low : y ≤ x = firsts x y xs ys one two same in
    let high : x ≤ y = firsts y x ys xs two one (λ z. sym (same z)) in
    let first : x ≡ y = omega arith in
    let rest : xs ≡ ys =
    same_rising xs ys one.1 two.1 (λ z. same_tests (is_in z xs) (is_in z ys) (rests x y xs ys one two same first z)
    (rests y x ys xs two one (λ w. sym (same w)) (sym first) z)) in cc

-- ---- how long they are

-- a rising list of numbers from a up to b
long_at_most : (a b : ℕ) (xs : List ℕ) → IsRising xs → AllByRecursion (λ x. a ≤ x) xs → IsBelow b xs → length xs ≤ b - a
long_at_most a b [] rising from below = omega arith
long_at_most a b (x ∷ xs) rising from below =
    let rest : length xs ≤ b - (x + 1) =
    long_at_most (x + 1) b xs rising.1 (all-from (λ z. x + 1 ≤ z) xs (λ z there. let up : x < z = all-in (λ w. x < w) xs rising.0 z there in omega arith)) below.1 in
    let low : a ≤ x = from.0 in
    let high : x < b = below.0 in
    omega arith

-- a set of numbers below n has at most n of them
pub length-set_below : (n : ℕ) (xs : List ℕ) → IsSetBelow n xs → length xs ≤ n
length-set_below n xs set =
    let long : length xs ≤ n - 0 = long_at_most 0 n xs set.rising (all-from (λ z. 0 ≤ z) xs (λ z there. omega arith)) set.below in
    omega arith

-- and where it has n, it has them all
run_whole : (a n : ℕ) (xs : List ℕ) → IsRising xs → AllByRecursion (λ x. a ≤ x) xs → IsBelow (a + n) xs → length xs ≡ n
    → xs ≡ range_with_len a n
run_whole a zero [] rising from below long = refl
run_whole a (suc n) [] rising from below long = absurd (omega arith)
run_whole a zero (x ∷ xs) rising from below long = absurd (omega arith)
run_whole a (suc n) (x ∷ xs) rising from below long =
    let later : AllByRecursion (λ z. x + 1 ≤ z) xs =
    all-from (λ z. x + 1 ≤ z) xs (λ z there. let up : x < z = all-in (λ w. x < w) xs rising.0 z there in omega arith) in
    let room : length xs ≤ a + suc n - (x + 1) = long_at_most (x + 1) (a + suc n) xs rising.1 later below.1 in
    let low : a ≤ x = from.0 in
    let high : x < a + suc n = below.0 in
    let first : x ≡ a = omega arith in
    let rest : xs ≡ range_with_len (a + 1) n =
    run_whole (a + 1) n xs rising.1 (rw first at later)
    (all-from (λ z. z < a + 1 + n) xs (λ z there. let under : z < a + suc n = all-in (λ w. w < a + suc n) xs below.1 z there in omega arith))
    (omega arith) in cc

-- a set of n numbers below n is all of them
pub numbers-whole : (n : ℕ) (xs : List ℕ) → IsSetBelow n xs → length xs ≡ n → xs ≡ numbers n
numbers-whole n xs set long =
    run_whole 0 n xs set.rising (all-from (λ z. 0 ≤ z) xs (λ z there. omega arith))
    (all-from (λ z. z < 0 + n) xs (λ z there. let under : z < n = all-in (λ w. w < n) xs set.below z there in omega arith)) long

-- there are n numbers below n
pub length-numbers : (n : ℕ) → length (numbers n) ≡ n
length-numbers n = length-range_with_len 0 n

-- ---- sets of numbers below n

-- all the numbers below n are a set of them
pub IsSetBelow-numbers : (n : ℕ) → IsSetBelow n (numbers n)
IsSetBelow-numbers n = record {
  rising = IsRising-numbers n;
  below = all-from (λ x. x < n) (numbers n) (λ x there. ltb-true x n (sym (is_in-numbers x n) ∙ there));
}

-- so is no number
pub IsSetBelow-empty : (n : ℕ) → IsSetBelow n []
IsSetBelow-empty n = record { rising = tt; below = tt }

-- what passes a test
pub IsSetBelow-filter : (n : ℕ) (p : ℕ → Bool) (xs : List ℕ) → IsSetBelow n xs → IsSetBelow n (filter p xs)
IsSetBelow-filter n p xs set = record {
  rising = IsRising-filter p xs set.rising;
  below = all-from (λ x. x < n) (filter p xs) (λ x there. all-in (λ z. z < n) xs set.below x (kept_from x there));
}
  where
    kept_from : (x : ℕ) → is_in x (filter p xs) ≡ true → is_in x xs ≡ true
    kept_from x there =
        elim (cases_Bool (p x)) [
          | inl passes ↦ sym (rw passes at (is_in-filter p x xs)) ∙ there
          | inr fails ↦ absurd (both_ways (is_in x (filter p xs)) (rw fails at (is_in-filter p x xs)) there)
        ]

-- what is left without a number
pub IsSetBelow-removed : (n x : ℕ) (xs : List ℕ) → IsSetBelow n xs → IsSetBelow n (removed x xs)
IsSetBelow-removed n x xs set = IsSetBelow-filter n (λ y. not (eqb x y)) xs set

-- what is in both
pub IsSetBelow-common : (n : ℕ) (xs ys : List ℕ) → IsSetBelow n xs → IsSetBelow n (common xs ys)
IsSetBelow-common n xs ys set = IsSetBelow-filter n (λ y. is_in y ys) xs set

-- the difference
pub IsSetBelow-minus : (n : ℕ) (xs ys : List ℕ) → IsSetBelow n xs → IsSetBelow n (minus xs ys)
IsSetBelow-minus n xs ys set = IsSetBelow-filter n (λ y. not (is_in y ys)) xs set

-- one more number below n
pub IsSetBelow-inserted : (n x : ℕ) (xs : List ℕ) → x < n → IsSetBelow n xs → IsSetBelow n (inserted x xs)
IsSetBelow-inserted n x xs low set = record {
  rising = IsRising-inserted x xs set.rising;
  below =
      all-from (λ z. z < n) (inserted x xs) (λ z there.
      elim (or_cases (eqb z x) _ (sym (is_in-inserted z x xs) ∙ there)) [
        | inl new ↦ let e : z ≡ x = eqb-true z x new in omega arith
        | inr old ↦ all-in (λ w. w < n) xs set.below z old
      ]);
}

-- the union, in which only the first list need rise
pub IsSetBelow-joined : (n : ℕ) (xs ys : List ℕ) → IsSetBelow n xs → IsBelow n ys → IsSetBelow n (joined xs ys)
IsSetBelow-joined n xs [] set below = set
IsSetBelow-joined n xs (y ∷ ys) set below =
    IsSetBelow-joined n (inserted y xs) ys (IsSetBelow-inserted n y xs below.0 set) below.1

-- a set that has all the numbers below n is all of them
pub numbers-has_all : (n : ℕ) (xs : List ℕ) → IsSetBelow n xs → has_all n xs ≡ true → xs ≡ numbers n
numbers-has_all n xs set all =
    same_rising xs (numbers n) set.rising (IsRising-numbers n) (λ z. same_tests (is_in z xs) (is_in z (numbers n))
    (λ there. is_in-numbers z n ∙ lt-ltb z n (all-in (λ w. w < n) xs set.below z there))
    (λ there. is_within-in (numbers n) xs all z there))

-- a set has all the numbers below n where it has n of them
pub has_all-length : (n : ℕ) (xs : List ℕ) → IsSetBelow n xs → eqb (length xs) n ≡ has_all n xs
has_all-length n xs set =
    same_tests (eqb (length xs) n) (has_all n xs)
    (λ long. rw (numbers-whole n xs set (eqb-true (length xs) n long)) (is_within-from (numbers n) (numbers n) (λ x there. there)))
    (λ all. eq-eqb (length xs) n (ap length (numbers-has_all n xs set all) ∙ length-numbers n))

-- a set of numbers below n is one of those below any larger number
pub IsSetBelow-more : (n m : ℕ) (xs : List ℕ) → n ≤ m → IsSetBelow n xs → IsSetBelow m xs
IsSetBelow-more n m xs order set = record {
  rising = set.rising;
  below = all-from (λ x. x < m) xs (λ x there. let low : x < n = all-in (λ z. z < n) xs set.below x there in omega arith);
}

-- with n at its end it is a set of numbers below n + 1
pub IsSetBelow-push : (n : ℕ) (xs : List ℕ) → IsSetBelow n xs → IsSetBelow (n + 1) (xs ++ n ∷ [])
IsSetBelow-push n xs set = record {
  rising = IsRising-push xs n set.rising set.below;
  below = pushed xs set.below;
}
  where
    pushed : (zs : List ℕ) → IsBelow n zs → IsBelow (n + 1) (zs ++ n ∷ [])
    pushed [] below = (omega arith, tt)
    pushed (z ∷ zs) below = (let low : z < n = below.0 in omega arith, pushed zs below.1)
