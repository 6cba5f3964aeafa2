-- Which numbers are in a list that is made of others. None of it asks that a list rises.
use Rattle.std.proofs.Common.{◌≡◌, ℕ, ◌+◌, ◌<◌, ◌≤◌, Bool, true, false, not, ◌&&◌, ◌||◌, cond, eqb, ltb, zero, suc, List, [], ◌∷◌, ◌++◌, length, get_or, add-one, refl, sym, ap, ◌∙◌, inl, inr, arith}
use Rattle.std.proofs.lemmas.Bool.{eqb-true, eq-eqb, ne_eqb, ltb-true, lt-ltb, and_parts, and_from, or_cases, or_left, or_right, or_from, or_parts, not-true, both_ways, cases_eq}
use Rattle.std.specs.List.{filter, list_all, range_with_len}
use Rattle.hv_member.specs.Sets.{is_in, inserted, removed, joined, common, minus, is_within, has_all, exceeds, numbers}

-- two tests that pass together are one
pub same_tests : (a b : Bool) → (a ≡ true → b ≡ true) → (b ≡ true → a ≡ true) → a ≡ b
same_tests true b there back = sym (there refl)
same_tests false true there back = back refl
same_tests false false there back = refl

or_swap : (a b c : Bool) → (a || (b || c)) ≡ (b || (a || c))
or_swap true true c = refl
or_swap true false c = refl
or_swap false b c = refl

or_assoc : (a b c : Bool) → ((a || b) || c) ≡ (b || (a || c))
or_assoc true true c = refl
or_assoc true false c = refl
or_assoc false b c = refl

or_twice : (a c : Bool) → (a || c) ≡ (a || (a || c))
or_twice true c = refl
or_twice false c = refl

and_false : (a : Bool) → false ≡ (a && false)
and_false true = refl
and_false false = refl

-- the first number is in the list
pub is_in-first : (x : ℕ) (xs : List ℕ) → is_in x (x ∷ xs) ≡ true
is_in-first x xs = or_left _ _ (eq-eqb x x refl)

-- what is in the rest is in the list
pub is_in-rest : (x y : ℕ) (ys : List ℕ) → is_in x ys ≡ true → is_in x (y ∷ ys) ≡ true
is_in-rest x y ys there = or_right (eqb x y) _ there

is_in_insert_cases : (x y z : ℕ) (zs : List ℕ) (a b : Bool) → eqb y z ≡ b
    → is_in x (inserted y zs) ≡ (eqb x y || is_in x zs)
    → is_in x (cond a (z ∷ inserted y zs) (cond b (z ∷ zs) (y ∷ z ∷ zs))) ≡ (eqb x y || (eqb x z || is_in x zs))
is_in_insert_cases x y z zs true b same rest = ap (λ t. eqb x z || t) rest ∙ or_swap (eqb x z) (eqb x y) (is_in x zs)
is_in_insert_cases x y z zs false true same rest =
    rw (eqb-true y z same) (or_twice (eqb x z) (is_in x zs))
is_in_insert_cases x y z zs false false same rest = refl

-- an insert adds the one number
pub is_in-inserted : (x y : ℕ) (ys : List ℕ) → is_in x (inserted y ys) ≡ (eqb x y || is_in x ys)
is_in-inserted x y [] = refl
is_in-inserted x y (z ∷ zs) = is_in_insert_cases x y z zs (ltb z y) (eqb y z) refl (is_in-inserted x y zs)

filter_cases : (p : ℕ → Bool) (x y : ℕ) (ys : List ℕ) (b e : Bool) → p y ≡ b → eqb x y ≡ e
    → is_in x (filter p ys) ≡ (p x && is_in x ys)
    → is_in x (cond b (y ∷ filter p ys) (filter p ys)) ≡ (p x && (e || is_in x ys))
filter_cases p x y ys true true passes same rest =
    let whole : p x ≡ true = ap p (eqb-true x y same) ∙ passes in rw (same, whole)
filter_cases p x y ys true false passes other rest = rw other rest
filter_cases p x y ys false true fails same rest =
    let whole : p x ≡ false = ap p (eqb-true x y same) ∙ fails in rw (rest, whole)
filter_cases p x y ys false false fails other rest = rest

-- a filter keeps what passes
pub is_in-filter : (p : ℕ → Bool) (x : ℕ) (xs : List ℕ) → is_in x (filter p xs) ≡ (p x && is_in x xs)
is_in-filter p x [] = and_false (p x)
is_in-filter p x (y ∷ ys) = filter_cases p x y ys (p y) (eqb x y) refl refl (is_in-filter p x ys)

-- two tests that agree on the list keep the same of it
pub filter-agree : (p q : ℕ → Bool) (xs : List ℕ) → ((x : ℕ) → is_in x xs ≡ true → p x ≡ q x) → filter p xs ≡ filter q xs
filter-agree p q [] same = refl
filter-agree p q (x ∷ xs) same =
    rw (same x (is_in-first x xs), filter-agree p q xs (λ z there. same z (is_in-rest z x xs there)))

-- a number is in what is left where it isn't the one taken, and was there
pub is_in-removed : (x y : ℕ) (xs : List ℕ) → is_in x (removed y xs) ≡ (not (eqb y x) && is_in x xs)
is_in-removed x y xs = is_in-filter (λ z. not (eqb y z)) x xs

-- what isn't there can't be taken
pub removed-absent : (x : ℕ) (xs : List ℕ) → is_in x xs ≡ false → removed x xs ≡ xs
removed-absent x [] none = refl
removed-absent x (y ∷ ys) none =
    let parts = or_parts (eqb x y) (is_in x ys) none in
    rw parts.0 (ap (λ t. y ∷ t) (removed-absent x ys parts.1))

-- a number is in both where it is in each
pub is_in-common : (x : ℕ) (xs ys : List ℕ) → is_in x (common xs ys) ≡ (is_in x ys && is_in x xs)
is_in-common x xs ys = is_in-filter (λ z. is_in z ys) x xs

-- a number is in the difference where it is in the first list and not in the second
pub is_in-minus : (x : ℕ) (xs ys : List ℕ) → is_in x (minus xs ys) ≡ (not (is_in x ys) && is_in x xs)
is_in-minus x xs ys = is_in-filter (λ z. not (is_in z ys)) x xs

-- a number is in the union where it is in either
pub is_in-joined : (x : ℕ) (xs ys : List ℕ) → is_in x (joined xs ys) ≡ (is_in x xs || is_in x ys)
is_in-joined x xs [] = or_none (is_in x xs)
  where
    or_none : (a : Bool) → a ≡ (a || false)
    or_none true = refl
    or_none false = refl
is_in-joined x xs (y ∷ ys) =
    is_in-joined x (inserted y xs) ys ∙ ap (λ t. t || is_in x ys) (is_in-inserted x y xs)
    ∙ or_assoc (eqb x y) (is_in x xs) (is_in x ys)

-- a union with two lists is one with the first and then with the second
pub joined-append : (xs ys zs : List ℕ) → joined xs (ys ++ zs) ≡ joined (joined xs ys) zs
joined-append xs [] zs = refl
joined-append xs (y ∷ ys) zs = joined-append (inserted y xs) ys zs

-- a run of n numbers from a on has each of them
in_range : (x a n : ℕ) → a ≤ x → x < a + n → is_in x (range_with_len a n) ≡ true
in_range x a zero low high = absurd (omega arith)
in_range x a (suc n) low high =
    elim (cases_eq x a) [
      | inl first ↦ or_left _ _ (eq-eqb x a first)
      | inr other ↦ or_right (eqb x a) _ (in_range x (a + 1) n (omega arith) (omega arith))
    ]

-- and no other
from_range : (x a n : ℕ) → is_in x (range_with_len a n) ≡ true → (a ≤ x) × (x < a + n)
from_range x a zero there = absurd (both_ways false refl there)
from_range x a (suc n) there =
    elim (or_cases (eqb x a) _ there) [
      | inl first ↦ let same : x ≡ a = eqb-true x a first in (omega arith, omega arith)
      | inr later ↦ let more = from_range x (a + 1) n later in (omega arith, omega arith)
    ]

-- a number is among all those below n where it is below n
pub is_in-numbers : (x n : ℕ) → is_in x (numbers n) ≡ ltb x n
is_in-numbers x n =
    same_tests (is_in x (numbers n)) (ltb x n) (λ there. lt-ltb x n (omega (arith, from_range x 0 n there)))
    (λ below. in_range x 0 n (omega arith) (omega (arith, ltb-true x n below)))

-- what passes for the whole list passes for each number in it
pub list_all-in : (p : ℕ → Bool) (x : ℕ) (xs : List ℕ) → list_all p xs ≡ true → is_in x xs ≡ true → p x ≡ true
list_all-in p x [] all there = absurd (both_ways false refl there)
list_all-in p x (y ∷ ys) all there =
    let parts = and_parts (p y) (list_all p ys) all in
    elim (or_cases (eqb x y) _ there) [
      | inl first ↦ ap p (eqb-true x y first) ∙ parts.0
      | inr later ↦ list_all-in p x ys parts.1 later
    ]

-- and the other way round
pub list_all-from : (p : ℕ → Bool) (xs : List ℕ) → ((x : ℕ) → is_in x xs ≡ true → p x ≡ true) → list_all p xs ≡ true
list_all-from p [] each = refl
list_all-from p (y ∷ ys) each =
    and_from (p y) (list_all p ys) (each y (is_in-first y ys)) (list_all-from p ys (λ x there. each x (is_in-rest x y ys there)))

-- where a list lies within another, what is in it is in the other
pub is_within-in : (xs ys : List ℕ) → is_within xs ys ≡ true → (x : ℕ) → is_in x xs ≡ true → is_in x ys ≡ true
is_within-in xs ys within x there = list_all-in (λ z. is_in z ys) x xs within there

-- and the other way round
pub is_within-from : (xs ys : List ℕ) → ((x : ℕ) → is_in x xs ≡ true → is_in x ys ≡ true) → is_within xs ys ≡ true
is_within-from xs ys each = list_all-from (λ z. is_in z ys) xs each

-- a list lies within itself
pub is_within-self : (xs : List ℕ) → is_within xs xs ≡ true
is_within-self xs = is_within-from xs xs (λ x there. there)

-- and within each that a list within which it lies lies within
pub is_within-trans : (xs ys zs : List ℕ) → is_within xs ys ≡ true → is_within ys zs ≡ true → is_within xs zs ≡ true
is_within-trans xs ys zs first second =
    is_within-from xs zs (λ x there. is_within-in ys zs second x (is_within-in xs ys first x there))

-- where a list has all the numbers below n, it has each
pub has_all-in : (n : ℕ) (xs : List ℕ) → has_all n xs ≡ true → (x : ℕ) → x < n → is_in x xs ≡ true
has_all-in n xs all x below = is_within-in (numbers n) xs all x (is_in-numbers x n ∙ lt-ltb x n below)

-- and the other way round
pub has_all-from : (n : ℕ) (xs : List ℕ) → ((x : ℕ) → x < n → is_in x xs ≡ true) → has_all n xs ≡ true
has_all-from n xs each =
    is_within-from (numbers n) xs (λ x there. each x (ltb-true x n (sym (is_in-numbers x n) ∙ there)))

-- a list that exceeds another has all of it
pub exceeds-within : (xs ys : List ℕ) → exceeds xs ys ≡ true → is_within ys xs ≡ true
exceeds-within xs ys more = (and_parts (is_within ys xs) _ more).0

-- and isn't within it
pub exceeds-more : (xs ys : List ℕ) → exceeds xs ys ≡ true → is_within xs ys ≡ false
exceeds-more xs ys more = not-true _ (and_parts (is_within ys xs) _ more).1

-- and the other way round
pub exceeds-from : (xs ys : List ℕ) → is_within ys xs ≡ true → is_within xs ys ≡ false → exceeds xs ys ≡ true
exceeds-from xs ys within more = rw (within, more)

-- no list exceeds itself
pub exceeds-self : (xs : List ℕ) → exceeds xs xs ≡ false
exceeds-self xs = rw (is_within-self xs)

-- a number that stands at a place is in the list
pub is_in-at : (x : ℕ) (xs : List ℕ) (k : ℕ) → k < length xs → get_or xs k 0 ≡ x → is_in x xs ≡ true
is_in-at x [] k within here = absurd (omega arith)
is_in-at x (y ∷ ys) zero within here = or_left _ _ (eq-eqb x y (sym here))
is_in-at x (y ∷ ys) (suc k) within here = or_right (eqb x y) _ (is_in-at x ys k (omega arith) here)

-- one that stands at none isn't
pub not_in-places : (x : ℕ) (xs : List ℕ) → ((k : ℕ) → k < length xs → get_or xs k 0 ≡ x → ⊥) → is_in x xs ≡ false
not_in-places x [] none = refl
not_in-places x (y ∷ ys) none =
    or_from (eqb x y) _ (ne_eqb x y (λ same. none 0 (omega arith) (sym same)))
    (not_in-places x ys (λ k within here. none (k + 1) (omega arith) (rw add-one here)))
