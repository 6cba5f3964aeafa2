-- Combinations with the set of all numbers below n.
use Rattle.std.proofs.Common.{◌≡◌, ℕ, ◌<◌, Bool, true, false, ◌&&◌, ◌||◌, List, [], ◌∷◌, refl, sym, ◌∙◌}
use Rattle.std.proofs.lemmas.Bool.{lt-ltb}
use Rattle.hv_member.specs.Sets.{is_in, IsSetBelow, joined, common, minus, numbers}
use Rattle.hv_member.proofs.MembershipLemmas.{is_in-first, is_in-rest, is_in-joined, is_in-common, is_in-numbers}
use Rattle.hv_member.proofs.RisingLemmas.{all-in, same_rising, IsRising-filter, IsRising-joined, IsRising-numbers}

module _ (n : ℕ) (xs : List ℕ) (set : IsSetBelow n xs) where
  below_in : (x : ℕ) → is_in x xs ≡ true → is_in x (numbers n) ≡ true
  below_in x there = is_in-numbers x n ∙ lt-ltb x n (all-in (λ z. z < n) xs set.below x there)

  -- what of a set is below n is the set
  pub common-numbers : common xs (numbers n) ≡ xs
  common-numbers =
      same_rising (common xs (numbers n)) xs (IsRising-filter (λ x. is_in x (numbers n)) xs set.rising) set.rising
      (λ z. is_in-common z xs (numbers n) ∙ and_there (is_in z (numbers n)) (is_in z xs) (below_in z))
    where
      and_there : (a b : Bool) → (b ≡ true → a ≡ true) → (a && b) ≡ b
      and_there true b there = refl
      and_there false true there = there refl
      and_there false false there = refl

  -- and the same from the other side
  pub numbers-common : common (numbers n) xs ≡ xs
  numbers-common =
      same_rising (common (numbers n) xs) xs (IsRising-filter (λ x. is_in x xs) (numbers n) (IsRising-numbers n)) set.rising
      (λ z. is_in-common z (numbers n) xs ∙ and_there (is_in z xs) (is_in z (numbers n)) (below_in z))
    where
      and_there : (a b : Bool) → (a ≡ true → b ≡ true) → (a && b) ≡ a
      and_there true b there = there refl
      and_there false b there = refl

  -- with all the numbers below n a set is all of them
  pub joined-numbers : joined xs (numbers n) ≡ numbers n
  joined-numbers =
      same_rising (joined xs (numbers n)) (numbers n) (IsRising-joined xs (numbers n) set.rising) (IsRising-numbers n)
      (λ z. is_in-joined z xs (numbers n) ∙ or_there (is_in z xs) (is_in z (numbers n)) (below_in z))
    where
      or_there : (a b : Bool) → (a ≡ true → b ≡ true) → (a || b) ≡ b
      or_there true b there = sym (there refl)
      or_there false b there = refl

  -- and the same from the other side
  pub numbers-joined : joined (numbers n) xs ≡ numbers n
  numbers-joined =
      same_rising (joined (numbers n) xs) (numbers n) (IsRising-joined (numbers n) xs (IsRising-numbers n)) (IsRising-numbers n)
      (λ z. is_in-joined z (numbers n) xs ∙ or_there (is_in z (numbers n)) (is_in z xs) (below_in z))
    where
      or_there : (a b : Bool) → (b ≡ true → a ≡ true) → (a || b) ≡ a
      or_there true b there = refl
      or_there false true there = sym (there refl)
      or_there false false there = refl

  -- a set without all the numbers below n is empty
  pub minus-numbers : minus xs (numbers n) ≡ []
  minus-numbers = none_kept xs below_in
    where
      none_kept : (ys : List ℕ) → ((x : ℕ) → is_in x ys ≡ true → is_in x (numbers n) ≡ true) → minus ys (numbers n) ≡ []
      none_kept [] each = refl
      none_kept (y ∷ ys) each =
          rw (each y (is_in-first y ys)) (none_kept ys (λ x there. each x (is_in-rest x y ys there)))
