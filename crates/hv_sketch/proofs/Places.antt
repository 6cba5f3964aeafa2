-- Where a binary search in a rising list finds an element, or the place for it, and what a put does there.
use Rattle.std.proofs.Common.{◌≡◌, ◌<◌, ◌≤◌, ◌+◌, ℕ, zero, suc, List, [], ◌∷◌, refl, sym, ap, length, get_or, set, arith, ◌∙◌, Result, Ok, Err, IfOk, IfErr}
use Rattle.std.specs.Cmp.{IsTotalOrder}
use Rattle.std.specs.List.{insert}
use Rattle.std.specs.List.Sorted.{IsBinarySearchResult, IsSearchInRange, IsSortedBy}
use Rattle.std.specs.Ordering.{is_lt, ordering_reverse}
use Rattle.std.specs.Result.{MatchResult}
use Rattle.std.specs.declared.cmp.Ordering.{Ordering}
use Rattle.std.specs.declared.cmp.Ordering.TheVariants.{Less, Equal, Greater}
use Rattle.std.proofs.lemmas.Cmp.{alike_right, tied_back}
use Rattle.std.proofs.lemmas.List.{set-get_or}
use Rattle.std.proofs.lemmas.List.Sorted.{searchable_from_sorted}
use Rattle.hv_sketch.specs.Rising.{IsAbove, IsRising, put}
use Rattle.hv_sketch.proofs.Least.{put-first, put-past, put-tied}

module _ {X : Type 0} (cmp : X → X → Ordering) (join : X → X → X) (order : IsTotalOrder cmp) where
  turned-Less : (x y : X) → cmp x y ≡ Less → cmp y x ≡ Greater
  turned-Less x y e = order.antisymm y x ∙ ap ordering_reverse e

  turned-Greater : (x y : X) → cmp x y ≡ Greater → cmp y x ≡ Less
  turned-Greater x y e = order.antisymm y x ∙ ap ordering_reverse e

  -- the first of a rising list is below each other
  first-below : (y : X) (ys : List X) (i : ℕ) (d : X) → IsAbove cmp y ys → IsRising cmp ys → i < length ys → cmp y (get_or ys i d) ≡ Less
  first-below y [] i d above rises within = absurd (omega arith)
  first-below y (z ∷ zs) zero d above rises within = above
  first-below y (z ∷ zs) (suc i) d above rises within =
      order.trans y z (get_or zs i d) above (first-below z zs i d rises.0 rises.1 (omega arith))

  -- an element that ties with one of a rising list is joined with it there
  pub put-there : (x : X) (xs : List X) (i : ℕ) → IsRising cmp xs → i < length xs → cmp (get_or xs i x) x ≡ Equal
      → put cmp join x xs ≡ set xs i (join x (get_or xs i x))
  put-there x [] i rises within tied = absurd (omega arith)
  put-there x (y ∷ ys) zero rises within tied = put-tied cmp join x y ys (tied_back order y x tied)
  put-there x (y ∷ ys) (suc i) rises within tied =
      let below : cmp y x ≡ Less = sym (alike_right order (get_or ys i x) x y tied) ∙ first-below y ys i x rises.0 rises.1 (omega arith) in
      put-past cmp join x y ys (turned-Less y x below) ∙ ap (λ l. y ∷ l) (put-there x ys i rises.1 (omega arith) tied)

  -- an element above those before a place and below those from it on is put in there
  pub put-between : (x : X) (xs : List X) (i : ℕ) → i ≤ length xs
      → ((k : ℕ) (d : X) → k < i → cmp (get_or xs k d) x ≡ Less)
      → ((k : ℕ) (d : X) → i ≤ k → k < length xs → cmp (get_or xs k d) x ≡ Greater)
      → put cmp join x xs ≡ insert xs i x
  put-between x [] zero within before behind = refl
  put-between x [] (suc i) within before behind = absurd (omega arith)
  put-between x (y ∷ ys) zero within before behind =
      put-first cmp join x (y ∷ ys) (turned-Greater y x (behind 0 x (omega arith) (omega arith)))
  put-between x (y ∷ ys) (suc i) within before behind =
      put-past cmp join x y ys (turned-Less y x (before 0 x (omega arith)))
      ∙ ap (λ l. y ∷ l) (put-between x ys i (omega arith) (λ k d lt. before (suc k) d (omega (arith, lt)))
      (λ k d le lt. behind (suc k) d (omega (arith, le)) (omega (arith, lt))))

  -- an element above the last of a rising list is put at its end
  pub put-last : (x d : X) (xs : List X) (last : ℕ) → IsRising cmp xs → length xs ≡ last + 1 → cmp (get_or xs last d) x ≡ Less
      → put cmp join x xs ≡ insert xs (length xs) x
  put-last x d [] last rises many less = absurd (omega (arith, many))
  put-last x d (y ∷ []) zero rises many less = put-past cmp join x y [] (turned-Less y x less)
  put-last x d (y ∷ z ∷ zs) zero rises many less = absurd (omega (arith, many))
  put-last x d (y ∷ ys) (suc last) rises many less =
      let below : cmp y x ≡ Less = order.trans y (get_or ys last d) x (first-below y ys last d rises.0 rises.1 (omega (arith, many))) less in
      put-past cmp join x y ys (turned-Less y x below) ∙ ap (λ l. y ∷ l) (put-last x d ys last rises.1 (omega (arith, many)) less)

  -- two neighbours in a rising list aren't turned round
  rising-sorted : (xs : List X) → IsRising cmp xs → IsSortedBy (λ a b. is_lt (cmp a b)) xs
  rising-sorted [] rises k d low high = absurd (omega (arith, high))
  rising-sorted (y ∷ []) rises k d low high = absurd (omega (arith, high))
  rising-sorted (y ∷ z ∷ zs) rises zero d low high = ap is_lt (turned-Less y z rises.0)
  rising-sorted (y ∷ z ∷ zs) rises (suc k) d low high =
      let more : suc k + 1 ≡ suc (k + 1) = omega arith in
      rw more (rising-sorted (z ∷ zs) rises.1 k d (omega arith) (omega (arith, high)))

  -- what a binary search in a rising list tells of a put
  pub searched : (x : X) (xs : List X) (r : Result ℕ ℕ) → IsRising cmp xs → IsSearchInRange r (length xs)
      → IsBinarySearchResult (λ y. cmp y x) xs r
      → MatchResult r (λ i. put cmp join x xs ≡ set xs i (join x (get_or xs i x))) (λ i. (i ≤ length xs) × (put cmp join x xs ≡ insert xs i x))
  searched x xs (Ok i) rises within found = put-there x xs i rises within (found x)
  searched x xs (Err i) rises within parted =
      let parts = parted (searchable_from_sorted order (λ y. y) xs x (rising-sorted xs rises)) in
      (within, put-between x xs i within (λ k d lt. parts.0 k d (omega arith) lt) parts.1)

-- what such a search tells, a clause for each outcome
module _ {X : Type 0} (cmp : X → X → Ordering) (join : X → X → X) where
  -- the element ties with one there, or has a place
  abbrev Told : X → List X → Result ℕ ℕ → Type 0
  Told x xs r =
      MatchResult r (λ i. put cmp join x xs ≡ set xs i (join x (get_or xs i x))) (λ i. (i ≤ length xs) × (put cmp join x xs ≡ insert xs i x))

  -- where of two that tie the one that was there stays, one that ties is put in without a change
  pub search_there : (x : X) (xs : List X) (r : Result ℕ ℕ) → ((y : X) → join x y ≡ y) → Told x xs r → IfOk r (λ _. put cmp join x xs ≡ xs)
  search_there x xs (Ok i) stays found = found ∙ ap (set xs i) (stays (get_or xs i x)) ∙ set-get_or xs i x
  search_there x xs (Err i) stays found = tt

  -- any other has a place in the list or at its end
  pub search_within : (x : X) (xs : List X) (r : Result ℕ ℕ) → Told x xs r → IfErr r (λ i. i ≤ length xs)
  search_within x xs (Ok i) found = tt
  search_within x xs (Err i) found = found.0

  -- and is put in there
  pub search_place : (x : X) (xs : List X) (r : Result ℕ ℕ) → Told x xs r → IfErr r (λ i. put cmp join x xs ≡ insert xs i x)
  search_place x xs (Ok i) found = tt
  search_place x xs (Err i) found = found.1
