-- The search by halves in a rising list.
use Rattle.std.proofs.Common.{◌≡◌, ℕ, zero, suc, ◌+◌, ◌<◌, ◌≤◌, Bool, true, false, eqb, ltb, leb, List, [], ◌∷◌, length, get_or, Option, Some, None, Result, Ok, Err, is_ok, nat_cmp, Bor, cond, refl, sym, ap, subst, ◌∙◌, inl, inr, arith}
use Rattle.std.proofs.lemmas.Bool.{ltb-true, ltb-false, lt-ltb, le-leb, lt-leb, leb-true, leb-false, cases_lt, eqb-true, or_cases, both_ways}
use Rattle.std.proofs.lemmas.List.Sorted.{searched}
use Rattle.std.proofs.lemmas.Option.{slice_get_past, slice_get-get_or}
use Rattle.std.specs.Prelude.{MatchResult, IfSome, is_some}
use Rattle.std.specs.Option.{option_copied}
use Rattle.std.specs.List.{AllByRecursion, filter, slice_get}
use Rattle.std.specs.List.Sorted.{IsNonDecreasing, IsPartitionPoint, IsBinarySearchResult}
use Rattle.hv_member.specs.Sets.{is_in, IsRising, numbers, next_from}
use Rattle.hv_member.proofs.MembershipLemmas.{filter-agree, is_in-first, is_in-rest, is_in-at, not_in-places, is_in-numbers}
use Rattle.hv_member.proofs.RisingLemmas.{all-in, IsRising-numbers}

-- ---- the order by places

above_at : (x : ℕ) (xs : List ℕ) (k d : ℕ) → AllByRecursion (λ y. x < y) xs → k < length xs → x < get_or xs k d
above_at x [] k d above within = absurd (omega arith)
above_at x (y ∷ ys) zero d above within = above.0
above_at x (y ∷ ys) (suc k) d above within = above_at x ys k d above.1 (omega arith)

-- a rising list doesn't fall, which is what the search asks
pub IsNonDecreasing-rising : (xs : List ℕ) → IsRising xs → IsNonDecreasing xs
IsNonDecreasing-rising [] rising i j d order within = absurd (omega arith)
IsNonDecreasing-rising (x ∷ xs) rising zero zero d order within = omega arith
IsNonDecreasing-rising (x ∷ xs) rising zero (suc j) d order within =
    let far : x < get_or xs j d = above_at x xs j d rising.0 (omega arith) in omega arith
IsNonDecreasing-rising (x ∷ xs) rising (suc i) zero d order within = absurd (omega arith)
IsNonDecreasing-rising (x ∷ xs) rising (suc i) (suc j) d order within =
    IsNonDecreasing-rising xs rising.1 i j d (omega arith) (omega arith)

-- ---- what the search finds

abbrev pub Parts_at : ℕ → List ℕ → ℕ → Type 0
Parts_at from xs i = IsPartitionPoint (λ y. ltb y from ≡ true) (λ y. ltb y from ≡ false) xs i

-- the place where the numbers stop to be below `from` has the first that isn't
pub next_from-place : (from : ℕ) (xs : List ℕ) (i : ℕ) → Parts_at from xs i → slice_get xs i ≡ next_from from xs
next_from-place from [] i parts = refl
next_from-place from (x ∷ xs) zero parts =
    let first : from ≤ x = ltb-false x from (parts.1 0 0 (omega arith) (omega arith)) in rw (le-leb from x first)
next_from-place from (x ∷ xs) (suc i) parts =
    let first : x < from = ltb-true x from (parts.0 0 0 (omega arith) (omega arith)) in
    rw (lt-leb from x first)
    (next_from-place from xs i (λ k d low high. parts.0 (suc k) d (omega arith) (omega arith), λ k d low high. parts.1 (suc k) d (omega arith) (omega arith)))

-- the same place, known by the numbers there and before it
pub next_from-here : (from : ℕ) (xs : List ℕ) (i : ℕ) → IsRising xs → i < length xs → from ≤ get_or xs i 0
    → ((k : ℕ) → k < i → get_or xs k 0 < from) → slice_get xs i ≡ next_from from xs
next_from-here from [] i rising within here before = refl
next_from-here from (x ∷ xs) zero rising within here before = rw (le-leb from x here)
next_from-here from (x ∷ xs) (suc i) rising within here before =
    let first : x < from = before 0 (omega arith) in
    rw (lt-leb from x first)
    (next_from-here from xs i rising.1 (omega arith) here (λ k less. before (suc k) (omega arith)))

-- ---- what the search by halves answers

found_or_not : (x : ℕ) (xs : List ℕ) (r : Result ℕ ℕ)
    → MatchResult r (λ i. (i < length xs) × (get_or xs i 0 ≡ x)) (λ i. (i ≤ length xs) × ((k : ℕ) → k < i → get_or xs k 0 < x) × ((k : ℕ) → i ≤ k → k < length xs → x < get_or xs k 0))
    → is_ok r ≡ is_in x xs
found_or_not x xs (Ok i) found = sym (is_in-at x xs i found.0 found.1)
found_or_not x xs (Err i) found =
    sym (not_in-places x xs (λ k within here. elim (cases_lt k i) [
      | inl low ↦ let less : get_or xs k 0 < x = found.1 k low in omega arith
      | inr high ↦ let more : x < get_or xs k 0 = found.2 k high within in omega arith
    ]))

-- the search finds a number where it is in the list
pub is_ok-search : (x : ℕ) (xs : List ℕ) (r : Result ℕ ℕ) → IsRising xs → IsBinarySearchResult (λ y. nat_cmp y x) xs r → is_ok r ≡ is_in x xs
is_ok-search x xs r rising found =
    found_or_not x xs r (searched xs x r found (λ i j order within. IsNonDecreasing-rising xs rising i j 0 order within))

-- ---- the next number by what is in the list

-- none where all are below `from`
pub next_from-none : (from : ℕ) (xs : List ℕ) → ((x : ℕ) → is_in x xs ≡ true → x < from) → next_from from xs ≡ None
next_from-none from [] each = refl
next_from-none from (x ∷ xs) each =
    rw (lt-leb from x (each x (is_in-first x xs))) (next_from-none from xs (λ z there. each z (is_in-rest z x xs there)))

-- the first that isn't below `from`
pub next_from-some : (from p : ℕ) (xs : List ℕ) → IsRising xs → is_in p xs ≡ true → from ≤ p
    → ((x : ℕ) → is_in x xs ≡ true → from ≤ x → p ≤ x) → next_from from xs ≡ Some p
next_from-some from p [] rising there low least = absurd (both_ways false refl there)
next_from-some from p (x ∷ xs) rising there low least =
    elim (cases_lt x from) [
      | inl below ↦
          rw (lt-leb from x below)
          (next_from-some from p xs rising.1 (later below) low (λ z inside high. least z (is_in-rest z x xs inside) high))
      | inr high ↦ rw (le-leb from x high) (ap Some (first high))
    ]
  where
    later : x < from → is_in p xs ≡ true
    later below =
        elim (or_cases (eqb p x) _ there) [
          | inl same ↦ let e : p ≡ x = eqb-true p x same in absurd (omega arith)
          | inr more ↦ more
        ]

    first : from ≤ x → x ≡ p
    first high =
        let order : p ≤ x = least x (is_in-first x xs) high in
        elim (or_cases (eqb p x) _ there) [
          | inl same ↦ sym (eqb-true p x same)
          | inr more ↦ absurd (let above : x < p = all-in (λ z. x < z) xs rising.0 p more in omega arith)
        ]

-- of all the numbers below n
pub next_from-numbers : (from n : ℕ) → from < n → next_from from (numbers n) ≡ Some from
next_from-numbers from n low =
    next_from-some from from (numbers n) (IsRising-numbers n) (is_in-numbers from n ∙ lt-ltb from n low) (omega arith) (λ x there high. high)

pub next_from-past : (from n : ℕ) → n ≤ from → next_from from (numbers n) ≡ None
next_from-past from n high =
    next_from-none from (numbers n) (λ x there. let below : x < n = ltb-true x n (sym (is_in-numbers x n) ∙ there) in omega arith)

-- what `get` lends at a place, copied
pub copied-get : (xs : List ℕ) (i : ℕ) (r : Option (Bor ℕ)) → is_some r ≡ ltb i (length xs) → IfSome r (λ x. x.now ≡ get_or xs i x.now)
    → option_copied r ≡ slice_get xs i
copied-get xs i None lent same = sym (slice_get_past xs i (ltb-false i (length xs) (sym lent)))
copied-get xs i (Some x) lent same =
    let within : i < length xs = ltb-true i (length xs) (sym lent) in
    sym (slice_get-get_or xs i x.now within ∙ ap Some (sym same))

-- ---- a walk by `next`: what is left from `from` on is filter (leb from) xs

-- at the start all is left
pub left-start : (xs : List ℕ) → filter (leb 0) xs ≡ xs
left-start [] = refl
left-start (x ∷ xs) = rw (le-leb 0 x (omega arith)) (ap (λ t. x ∷ t) (left-start xs))

-- where `next` gives none, nothing is
pub left-none : (from : ℕ) (xs : List ℕ) → next_from from xs ≡ None → filter (leb from) xs ≡ []
left-none from [] none = refl
left-none from (x ∷ xs) none = cases (leb from x) none (left-none from xs)
  where
    cases : (b : Bool) → cond b (Some x) (next_from from xs) ≡ None → (next_from from xs ≡ None → filter (leb from) xs ≡ [])
        → cond b (x ∷ filter (leb from) xs) (filter (leb from) xs) ≡ []
    cases true none rest = absurd (some_none none)
      where
        some_none : Some x ≡ None → ⊥
        some_none e = cc
    cases false none rest = rest none

-- what `next` gives
pub record NextLeft (from p : ℕ) (xs : List ℕ) : Type 0 where
  pub low : from ≤ p
  pub there : is_in p xs ≡ true
  -- it is the first of what is left, and the rest is left after it
  pub first : filter (leb from) xs ≡ p ∷ filter (leb (p + 1)) xs

left_first : (from x : ℕ) (xs : List ℕ) → leb from x ≡ true → IsRising (x ∷ xs) → NextLeft from x (x ∷ xs)
left_first from x xs high rising =
    let low : from ≤ x = leb-true from x high in
    record {
      low = low;
      there = is_in-first x xs;
      first =
          rw (high, lt-leb (x + 1) x (omega arith))
          (ap (λ t. x ∷ t) (filter-agree (leb from) (leb (x + 1)) xs (λ z inside.
          let above : x < z = all-in (λ w. x < w) xs rising.0 z inside in
          le-leb from z (omega arith) ∙ sym (le-leb (x + 1) z (omega arith)))));
    }

left_cases : (from p x : ℕ) (xs : List ℕ) (b : Bool) → leb from x ≡ b → IsRising (x ∷ xs) → cond b (Some x) (next_from from xs) ≡ Some p
    → (next_from from xs ≡ Some p → NextLeft from p xs) → NextLeft from p (x ∷ xs)
left_cases from p x xs true high rising found rest =
    let same : x ≡ p = cc in
    subst (λ q. NextLeft from q (x ∷ xs)) same (left_first from x xs high rising)
left_cases from p x xs false below rising found rest =
    let more = rest found in
    let less : x < from = leb-false from x below in
    let low : from ≤ p = more.low in
    record {
      low = low;
      there = is_in-rest p x xs more.there;
      first = rw (below, lt-leb (p + 1) x (omega arith)) more.first;
    }

pub left-some : (from p : ℕ) (xs : List ℕ) → IsRising xs → next_from from xs ≡ Some p → NextLeft from p xs
left-some from p [] rising found = absurd (none_some found)
  where
    none_some : None ≡ Some p → ⊥
    none_some e = cc
left-some from p (x ∷ xs) rising found =
    left_cases from p x xs (leb from x) refl rising found (left-some from p xs rising.1)
