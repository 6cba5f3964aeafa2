-- A binary search in a rising list: what each of its steps tells of the place for an element.
use Rattle.std.proofs.Common.{◌≡◌, ◌<◌, ◌≤◌, ◌+◌, ℕ, zero, suc, List, [], ◌∷◌, true, refl, sym, ap, length, get_or, set, take, arith, ◌∙◌}
use Rattle.std.specs.Cmp.{IsTotalOrder}
use Rattle.std.specs.List.{All, insert}
use Rattle.std.specs.Ordering.{is_gt, ordering_reverse}
use Rattle.std.specs.declared.cmp.Ordering.{Ordering}
use Rattle.std.specs.declared.cmp.Ordering.TheVariants.{Less, Equal, Greater}
use Rattle.std.proofs.lemmas.Cmp.{tied_back}
use Rattle.hv_sketch.specs.Rising.{IsAbove, IsRising, put}
use Rattle.hv_sketch.proofs.Places.{put-between, put-last, put-there}

-- the elements before a place are below another, and those from a second one on above it
pub record IsBetween {X : Type 0} (cmp : X → X → Ordering) (x : X) (xs : List X) (low high : ℕ) : Type 0 where
  pub before : (k : ℕ) (d : X) → k < low → cmp (get_or xs k d) x ≡ Less
  pub behind : (k : ℕ) (d : X) → high ≤ k → k < length xs → cmp (get_or xs k d) x ≡ Greater

-- the first elements of a list with one more at its end
pub take-past : {X : Type 0} (x : X) (xs : List X) → take (length xs) (insert xs (length xs) x) ≡ xs
take-past x [] = refl
take-past x (y ∷ ys) = ap (λ l. y ∷ l) (take-past x ys)

-- an element of a list, whatever stands for one past its end
get-any : {X : Type 0} (xs : List X) (i : ℕ) (d e : X) → i < length xs → get_or xs i d ≡ get_or xs i e
get-any [] i d e within = absurd (omega (arith, within))
get-any (x ∷ xs) zero d e within = refl
get-any (x ∷ xs) (suc i) d e within = get-any xs i d e (omega (arith, within))

pub is-greater : (o : Ordering) → is_gt o ≡ true → o ≡ Greater
is-greater Less e = cc
is-greater Equal e = cc
is-greater Greater e = refl

module _ {X : Type 0} (cmp : X → X → Ordering) (order : IsTotalOrder cmp) where
  back-less : (x y : X) → cmp x y ≡ Less → cmp y x ≡ Greater
  back-less x y e = order.antisymm y x ∙ ap ordering_reverse e

  back-greater : (x y : X) → cmp x y ≡ Greater → cmp y x ≡ Less
  back-greater x y e = order.antisymm y x ∙ ap ordering_reverse e

  -- above one that is above another is above that too
  pub above-above : (x y z : X) → cmp x y ≡ Greater → cmp y z ≡ Greater → cmp x z ≡ Greater
  above-above x y z e f = back-less z x (order.trans z y x (back-greater y z f) (back-greater x y e))

  -- the first of a rising list is below each other
  first-low : (y : X) (ys : List X) (i : ℕ) (d : X) → IsAbove cmp y ys → IsRising cmp ys → i < length ys → cmp y (get_or ys i d) ≡ Less
  first-low y [] i d above rises within = absurd (omega (arith, within))
  first-low y (z ∷ zs) zero d above rises within = above
  first-low y (z ∷ zs) (suc i) d above rises within =
      order.trans y z (get_or zs i d) above (first-low z zs i d rises.0 rises.1 (omega (arith, within)))

  -- an element below one of a rising list is below all from there on
  above-from : (x : X) (xs : List X) (m : ℕ) (e : X) → IsRising cmp xs → m < length xs → cmp x (get_or xs m e) ≡ Less
      → (k : ℕ) (d : X) → m ≤ k → k < length xs → cmp (get_or xs k d) x ≡ Greater
  above-from x [] m e rises there less k d le within = absurd (omega (arith, within))
  above-from x (y ∷ ys) zero e rises there less zero d le within = back-less x y less
  above-from x (y ∷ ys) zero e rises there less (suc k) d le within =
      back-less x (get_or ys k d) (order.trans x y (get_or ys k d) less (first-low y ys k d rises.0 rises.1 (omega (arith, within))))
  above-from x (y ∷ ys) (suc m) e rises there less zero d le within = absurd (omega (arith, le))
  above-from x (y ∷ ys) (suc m) e rises there less (suc k) d le within =
      above-from x ys m e rises.1 (omega (arith, there)) less k d (omega (arith, le)) (omega (arith, within))

  -- one above one of it is above all up to there
  below-to : (x : X) (xs : List X) (m : ℕ) (e : X) → IsRising cmp xs → m < length xs → cmp x (get_or xs m e) ≡ Greater
      → (k : ℕ) (d : X) → k < m + 1 → cmp (get_or xs k d) x ≡ Less
  below-to x [] m e rises there greater k d lt = absurd (omega (arith, there))
  below-to x (y ∷ ys) zero e rises there greater zero d lt = back-greater x y greater
  below-to x (y ∷ ys) zero e rises there greater (suc k) d lt = absurd (omega (arith, lt))
  below-to x (y ∷ ys) (suc m) e rises there greater zero d lt =
      order.trans y (get_or ys m e) x (first-low y ys m e rises.0 rises.1 (omega (arith, there))) (back-greater x (get_or ys m e) greater)
  below-to x (y ∷ ys) (suc m) e rises there greater (suc k) d lt =
      below-to x ys m e rises.1 (omega (arith, there)) greater k d (omega (arith, lt))

  -- one above the last is above all
  pub above-last : (x : X) (xs : List X) (last : ℕ) (y e : X) → IsRising cmp xs → y ≡ get_or xs last e → length xs ≡ last + 1
      → cmp x y ≡ Greater → All (λ z. cmp x z ≡ Greater) xs
  above-last x xs last y e rises is many greater i d within =
      back-less (get_or xs i d) x
      (below-to x xs last e rises (omega (arith, many)) (sym (ap (cmp x) is) ∙ greater) i d (omega (arith, many, within)))

  module _ (x : X) (xs : List X) (low high : ℕ) (rises : IsRising cmp xs) where
    pub between-start : IsBetween cmp x xs 0 (length xs)
    between-start = record { before = λ k d lt. absurd (omega (arith, lt)); behind = λ k d le lt. absurd (omega (arith, le, lt)) }

    pub between-lower : (m : ℕ) (y e : X) → y ≡ get_or xs m e → m < length xs → cmp x y ≡ Less → IsBetween cmp x xs low high → IsBetween cmp x xs low m
    between-lower m y e is there less h =
        record { before = h.before; behind = above-from x xs m e rises there (sym (ap (cmp x) is) ∙ less) }

    pub between-higher : (m : ℕ) (y e : X) → y ≡ get_or xs m e → m < length xs → cmp x y ≡ Greater → IsBetween cmp x xs low high → IsBetween cmp x xs (m + 1) high
    between-higher m y e is there greater h =
        record { before = below-to x xs m e rises there (sym (ap (cmp x) is) ∙ greater); behind = h.behind }

  module _ (join : X → X → X) (x : X) (xs : List X) (rises : IsRising cmp xs) where
    -- where the two ends meet, the element is put in there
    pub between-end : (low high : ℕ) → low ≤ high → high ≤ length xs → high ≤ low → IsBetween cmp x xs low high → put cmp join x xs ≡ insert xs low x
    between-end low high le within meet h =
        put-between cmp join order x xs low (omega (arith, le, within)) h.before (λ k d past. h.behind k d (omega (arith, meet, past)))

    -- an element that ties with one is joined with it
    pub tied-at : (m : ℕ) (y e : X) → y ≡ get_or xs m e → m < length xs → cmp x y ≡ Equal → put cmp join x xs ≡ set xs m (join x (get_or xs m x))
    tied-at m y e is there tie =
        put-there cmp join order x xs m rises there
        (sym (ap (λ z. cmp z x) (is ∙ get-any xs m e x there)) ∙ tied_back order x y tie)

    -- an element above the last is left out where only as many are kept
    pub put-out : (k last : ℕ) (e : X) → length xs ≡ k → length xs ≡ last + 1 → cmp x (get_or xs last e) ≡ Greater
        → take k (put cmp join x xs) ≡ xs
    put-out k last e few many greater =
        ap (take k) (put-last cmp join order x e xs last rises many (back-greater x (get_or xs last e) greater))
        ∙ ap (λ n. take n (insert xs (length xs) x)) (sym few) ∙ take-past x xs
