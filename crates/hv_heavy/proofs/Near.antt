-- The bounds of heavy hitters: of exact counts, of one value more, of two lists together and joined, and what follows for frequent values.
use Rattle.std.proofs.Common.{◌≡◌, ◌≤◌, ◌<◌, ◌+◌, ◌-◌, ◌*◌, ◌++◌, ℕ, zero, suc, List, [], ◌∷◌, Bool, true, false, refl, sym, ap, subst, arith, ◌∙◌}
use Rattle.std.proofs.Math.Nat.{mul-add}
use Rattle.std.specs.Prelude.{sum_by, if◌then◌else◌}
use Rattle.std.specs.Cmp.{Equal-is}
use Rattle.std.specs.Ordering.{match_ordering}
use Rattle.std.specs.declared.cmp.Ordering.{Ordering}
use Rattle.std.specs.declared.cmp.Ordering.TheVariants.{Less, Equal, Greater}
use Rattle.std.proofs.lemmas.List.Sums.{sum_by-append, sum_by-cons}
use Rattle.hv_value.specs.declared.cell.Cell.{Cell}
use Rattle.hv_value.specs.CellOrder.{cells_same}
use Rattle.hv_value.specs.Order.{compare_cells}
use Rattle.hv_sketch.specs.Rising.{put, put_all}
use Rattle.hv_heavy.specs.Heavy.{HasPair, IsNear, by_value, estimate, estimate_at, is_same, total}
use Rattle.hv_heavy.specs.Pairs.{added}
use Rattle.hv_heavy.specs.declared.summary.HeavyPair.{HeavyPair}

-- cells that the test finds equal are
pub same-is : (x y : Cell) → is_same x y ≡ true → x ≡ y
same-is x y e = cells_same x y ((Equal-is (compare_cells x y)).0 e)

-- a sum that adds up where two pairs tie is kept by joining
module _ (f : HeavyPair → ℕ) (ties : (x y : HeavyPair) → by_value x y ≡ Equal → f (added x y) ≡ f x + f y) where
  pub sum-put : (x : HeavyPair) (ys : List HeavyPair) → sum_by f (put by_value added x ys) ≡ f x + sum_by f ys
  sum-put x [] = sum_by-cons f x []
  sum-put x (y ∷ ys) = by (by_value x y) refl (sum-put x ys)
    where
      by : (o : Ordering) → by_value x y ≡ o → sum_by f (put by_value added x ys) ≡ f x + sum_by f ys
          → sum_by f (match_ordering o (x ∷ y ∷ ys) (added x y ∷ ys) (y ∷ put by_value added x ys)) ≡ f x + sum_by f (y ∷ ys)
      by Less e more = sum_by-cons f x (y ∷ ys)
      by Equal e more = omega (arith, sum_by-cons f (added x y) ys, ties x y e, sum_by-cons f y ys)
      by Greater e more = omega (arith, sum_by-cons f y (put by_value added x ys), more, sum_by-cons f y ys)

  pub sum-put_all : (xs ys : List HeavyPair) → sum_by f (put_all by_value added xs ys) ≡ sum_by f xs + sum_by f ys
  sum-put_all [] ys = omega arith
  sum-put_all (x ∷ xs) ys = omega (arith, sum-put x (put_all by_value added xs ys), sum-put_all xs ys, sum_by-cons f x xs)

-- an estimate of two that tie is that of both
tied-estimate : (value : Cell) (x y : HeavyPair) → by_value x y ≡ Equal → estimate_at value (added x y) ≡ estimate_at value x + estimate_at value y
tied-estimate value x y e = both (is_same value y.value) ∙ ap (λ v. (if is_same value v then x.estimate else 0) + estimate_at value y) (sym (cells_same x.value y.value e))
  where
    both : (b : Bool) → (if b then y.estimate + x.estimate else 0) ≡ (if b then x.estimate else 0) + (if b then y.estimate else 0)
    both true = omega arith
    both false = refl

-- the estimates and the total of two rising lists joined
pub estimate-joined : (a b : List HeavyPair) (value : Cell) → estimate (put_all by_value added a b) value ≡ estimate (a ++ b) value
estimate-joined a b value = sum-put_all (estimate_at value) (tied-estimate value) a b ∙ sym (sum_by-append _ a b)

pub total-joined : (a b : List HeavyPair) → total (put_all by_value added a b) ≡ total (a ++ b)
total-joined a b = sum-put_all (λ pair. pair.estimate) (λ x y e. omega arith) a b ∙ sym (sum_by-append _ a b)

-- the bounds speak of the estimates and their sum alone
pub near-same : (k n : ℕ) (count : Cell → ℕ) (a b : List HeavyPair) → ((value : Cell) → estimate a value ≡ estimate b value) → total a ≡ total b
    → IsNear k n count a → IsNear k n count b
near-same k n count a b estimates totals h =
    record {
      low = λ value. subst (λ e. e ≤ count value) (estimates value) (h.low value);
      near =
          λ value. subst (λ t. (k + 1) * (count value - estimate b value) + t ≤ n) totals
          (subst (λ e. (k + 1) * (count value - e) + total a ≤ n) (estimates value) (h.near value));
    }

-- so they hold of two rising lists joined where they hold of both together
pub near-joined : (k n : ℕ) (count : Cell → ℕ) (a b : List HeavyPair) → IsNear k n count (a ++ b) → IsNear k n count (put_all by_value added a b)
near-joined k n count a b h =
    near-same k n count (a ++ b) (put_all by_value added a b) (λ value. sym (estimate-joined a b value)) (sym (total-joined a b)) h

-- what is lost of two counts together is what is lost of each
lost-both : (m c d e f s t p q : ℕ) → e ≤ c → f ≤ d → m * (c - e) + s ≤ p → m * (d - f) + t ≤ q → m * ((c + d) - (e + f)) + (s + t) ≤ p + q
lost-both m c d e f s t p q low high first second =
    let apart : (c + d) - (e + f) ≡ (c - e) + (d - f) = omega arith in
    rw apart (omega (arith, mul-add m (c - e) (d - f)))

-- the bounds of two lists together
pub near-both : (k m n : ℕ) (f g : Cell → ℕ) (a b : List HeavyPair) → IsNear k m f a → IsNear k n g b → IsNear k (m + n) (λ value. f value + g value) (a ++ b)
near-both k m n f g a b first second =
    record {
      low = λ value. rw (estimates value) (omega (arith, first.low value, second.low value));
      near =
          λ value. rw (estimates value, sum_by-append (λ (pair : HeavyPair). pair.estimate) a b)
          (lost-both (k + 1) (f value) (g value) (estimate a value) (estimate b value) (total a) (total b) m n
          (first.low value) (second.low value) (first.near value) (second.near value));
    }
  where
    estimates : (value : Cell) → estimate (a ++ b) value ≡ estimate a value + estimate b value
    estimates value = sum_by-append (estimate_at value) a b

-- exact counts are near
pub near-exact : (k n : ℕ) (count : Cell → ℕ) (pairs : List HeavyPair) → ((value : Cell) → estimate pairs value ≡ count value) → total pairs ≤ n
    → IsNear k n count pairs
near-exact k n count pairs exact most =
    record {
      low = λ value. omega (arith, exact value);
      near = λ value. rw (exact value) (nothing (k + 1) (count value) (total pairs) n most);
    }
  where
    nothing : (m c t n : ℕ) → t ≤ n → m * (c - c) + t ≤ n
    nothing m c t n most =
        let none : c - c ≡ 0 = omega arith in
        rw none (omega arith)

-- a value of which nothing is estimated isn't frequent
unseen : (k n c t : ℕ) → (k + 1) * (c - 0) + t ≤ n → (k + 1) * c ≤ n
unseen k n c t most =
    let all : c - 0 ≡ c = omega arith in
    let lost : (k + 1) * c + t ≤ n = rw all at most in
    omega arith

-- so a frequent one has an estimate
pub frequent-some : (k n : ℕ) (count : Cell → ℕ) (pairs : List HeavyPair) (value : Cell) → IsNear k n count pairs → n < (k + 1) * count value → 1 ≤ estimate pairs value
frequent-some k n count pairs value h many = by (estimate pairs value) refl
  where
    by : (e : ℕ) → estimate pairs value ≡ e → 1 ≤ e
    by zero none =
        absurd (omega (arith, many, unseen k n (count value) (total pairs) (subst (λ e. (k + 1) * (count value - e) + total pairs ≤ n) none (h.near value))))
    by (suc e) some = omega arith

-- an estimate comes from a pair
pub pair-of_estimate : (pairs : List HeavyPair) (value : Cell) → 1 ≤ estimate pairs value → HasPair pairs value
pair-of_estimate [] value some = absurd (omega (arith, some))
pair-of_estimate (x ∷ xs) value some = by (is_same value x.value) refl (pair-of_estimate xs value)
  where
    later : HasPair xs value → HasPair (x ∷ xs) value
    later found = (found.0, (suc found.1.0, omega (arith, found.1.1), found.1.2), found.2)

    by : (b : Bool) → is_same value x.value ≡ b → (1 ≤ estimate xs value → HasPair xs value) → HasPair (x ∷ xs) value
    by true e rest = (x, (zero, omega arith, refl), sym (same-is value x.value e))
    by false e rest = later (rest (omega (arith, some, sum_by-cons (estimate_at value) x xs, ap (λ b. if b then x.estimate else 0) e)))
