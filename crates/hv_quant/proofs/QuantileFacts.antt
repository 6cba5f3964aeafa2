-- The rows of a sample sorted by key are its rising list by key, and the quantiles among them.
use Rattle.std.proofs.Common.{◌≡◌, ◌<◌, ◌≤◌, ◌+◌, ◌++◌, ℕ, zero, suc, List, [], ◌∷◌, Bool, true, false, refl, sym, ap, cond, length, get_or, arith, ◌∙◌}
use Rattle.std.specs.Prelude.{map, count_by, IsPermutation}
use Rattle.std.specs.Cmp.{IsTotalOrder}
use Rattle.std.specs.List.{range_with_len}
use Rattle.std.specs.List.Sorted.{IsSorted}
use Rattle.std.specs.Ordering.{is_eq, is_lt, ordering_reverse}
use Rattle.std.specs.declared.cmp.Ordering.{Ordering}
use Rattle.std.specs.declared.cmp.Ordering.TheVariants.{Less, Equal, Greater}
use Rattle.std.proofs.lemmas.Bool.{true≢false}
use Rattle.std.proofs.lemmas.Cmp.{tied_itself}
use Rattle.std.proofs.lemmas.List.FromFn.{map-range_with_len_more}
use Rattle.std.proofs.lemmas.List.Sorted.{sum_by-IsPermutation}
use Rattle.std.proofs.lemmas.List.Sums.{sum_by-cons}
use Rattle.hv_value.specs.declared.cell.Cell.{Cell}
use Rattle.hv_value.specs.declared.orders.OrderKey.{OrderKey}
use Rattle.hv_sketch.proofs.AnyOrder.{in_any_order}
use Rattle.hv_sketch.proofs.Least.{rising-same, rising-swap}
use Rattle.hv_sketch.specs.Rising.{IsAbove, IsRising, rising}
use Rattle.hv_quant.specs.Quantiles.{by_key, quantile_at, quantile_place, quantiles_in}
use Rattle.hv_quant.specs.Sample.{by_word, kept}
use Rattle.hv_quant.specs.SampleOrder.{by_key_same, by_key_total, key_joins, words_total}
use Rattle.hv_quant.specs.declared.summary.SampledRow.{SampledRow}
use Rattle.hv_quant.specs.declared.value.SampleValue.{SampleValue}

module _ {X : Type 0} (cmp : X → X → Ordering) (order : IsTotalOrder cmp) where
  module _ (p : X → Bool) (x : X) (one : (y : X) → p y ≡ true → y ≡ x) where
    -- none of those above an element is the element
    none-above : (ys : List X) → IsAbove cmp x ys → IsRising cmp ys → count_by p ys ≡ 0
    none-above [] above rises = refl
    none-above (y ∷ ys) above rises = by (p y) refl (λ up. none-above ys up rises.1)
      where
        up : (zs : List X) → IsAbove cmp y zs → IsAbove cmp x zs
        up [] higher = tt
        up (z ∷ zs) higher = order.trans x y z above higher

        by : (b : Bool) → p y ≡ b → (IsAbove cmp x ys → count_by p ys ≡ 0) → count_by p (y ∷ ys) ≡ 0
        by true e more =
            let same : cmp x x ≡ Less = ap (cmp x) (sym (one y e)) ∙ above in
            absurd (let tied = tied_itself order x in cc)
        by false e more = omega (arith, sum_by-cons (λ z. cond (p z) 1 0) y ys, ap {B = ℕ} (λ b. cond b 1 0) e, more (up ys rises.0))

    -- so a rising list has it once at most
    pub once-rising : (xs : List X) → IsRising cmp xs → count_by p xs ≤ 1
    once-rising [] rises = omega arith
    once-rising (y ∷ ys) rises = by (p y) refl (once-rising ys rises.1)
      where
        by : (b : Bool) → p y ≡ b → count_by p ys ≤ 1 → count_by p (y ∷ ys) ≤ 1
        by true e more =
            let above : IsAbove cmp x ys = rw (← one y e) rises.0 in
            omega (arith, sum_by-cons (λ z. cond (p z) 1 0) y ys, ap {B = ℕ} (λ b. cond b 1 0) e, none-above ys above rises.1)
        by false e more = omega (arith, sum_by-cons (λ z. cond (p z) 1 0) y ys, ap {B = ℕ} (λ b. cond b 1 0) e, more)

module _ (keys : List OrderKey) where
  -- whether a row is another
  abbrev is_row : SampledRow → SampledRow → Bool
  is_row x y = is_eq (by_key keys x y)

  tied : (o : Ordering) → is_eq o ≡ true → o ≡ Equal
  tied Less e = absurd (true≢false (sym e))
  tied Equal e = refl
  tied Greater e = absurd (true≢false (sym e))

  row_itself : (x : SampledRow) → is_row x x ≡ true
  row_itself x = ap is_eq (tied_itself (by_key_total keys) x)

  -- sorted rows that are each there once rise
  sorted-rises : (xs : List SampledRow) → IsSorted (by_key keys) xs → ((x : SampledRow) → count_by (is_row x) xs ≤ 1) → IsRising (by_key keys) xs
  sorted-rises [] sorted once = tt
  sorted-rises (x ∷ []) sorted once = (tt, tt)
  sorted-rises (x ∷ y ∷ ys) sorted once = (by (by_key keys y x) refl, sorted-rises (y ∷ ys) later rest)
    where
      later : IsSorted (by_key keys) (y ∷ ys)
      later k d low high =
          let more : suc k + 1 ≡ suc (k + 1) = omega arith in
          rw more at (sorted (suc k) d (omega arith) (omega (arith, high)))

      rest : (z : SampledRow) → count_by (is_row z) (y ∷ ys) ≤ 1
      rest z = omega (arith, once z, sum_by-cons (λ p. cond (is_row z p) 1 0) x (y ∷ ys))

      turned : is_lt (by_key keys y x) ≡ false
      turned = sorted 0 x (omega arith) (omega arith)

      by : (o : Ordering) → by_key keys y x ≡ o → by_key keys x y ≡ Less
      by Less e = absurd (true≢false (sym (ap is_lt e) ∙ turned))
      by Equal e =
          let there : is_row x y ≡ true = ap (is_row x) (by_key_same keys y x e) ∙ row_itself x in
          absurd (omega (
            arith,
            once x,
            sum_by-cons (λ p. cond (is_row x p) 1 0) x (y ∷ ys),
            sum_by-cons (λ p. cond (is_row x p) 1 0) y ys,
            ap {B = ℕ} (λ b. cond b 1 0) (row_itself x),
            ap {B = ℕ} (λ b. cond b 1 0) there,
          ))
      by Greater e = (by_key_total keys).antisymm x y ∙ ap ordering_reverse e

  -- the rows of a sample, sorted
  pub sorted-is : (sample sorted : List SampledRow) → IsRising (by_word keys) sample → IsPermutation sample sorted → IsSorted (by_key keys) sorted
      → sorted ≡ rising (by_key keys) kept sample
  sorted-is sample sorted rises moved ordered =
      let once : (x : SampledRow) → count_by (is_row x) sorted ≤ 1 =
      λ x. omega (
        arith,
        once-rising (by_word keys) (words_total keys) (is_row x) x (λ y e. sym (by_key_same keys x y (tied (by_key keys x y) e))) sample rises,
        sum_by-IsPermutation (λ p. cond (is_row x p) 1 0) sample sorted moved,
      ) in
      sym (rising-same (by_key keys) kept (by_key_total keys) (key_joins keys) sorted (sorted-rises sorted ordered once))
      ∙ sym (in_any_order (λ l. rising (by_key keys) kept sample ≡ rising (by_key keys) kept l)
      (λ a b c h. h ∙ rising-swap (by_key keys) kept (by_key_total keys) (key_joins keys) a b c) sample sorted moved refl)

-- the quantiles of rows of which there is one at least
pub quantiles-some : (q : ℕ) (rows : List SampledRow) → 0 < length rows → map (quantile_at q rows) (range_with_len 0 q) ≡ quantiles_in q rows
quantiles-some q [] some = absurd (omega (arith, some))
quantiles-some q (x ∷ xs) some = refl

pub quantiles-none : (q : ℕ) (rows : List SampledRow) → length rows ≡ 0 → [] ≡ quantiles_in q rows
quantiles-none q [] none = refl
quantiles-none q (x ∷ xs) none = absurd (omega (arith, none))

-- a row's key is at its place among the keys
key-at : (rows : List SampledRow) (i : ℕ) (d : SampledRow) → i < length rows → (get_or rows i d).key ≡ get_or (map (λ s. s.key) rows) i []
key-at [] i d within = absurd (omega (arith, within))
key-at (x ∷ xs) zero d within = refl
key-at (x ∷ xs) (suc i) d within = key-at xs i d (omega (arith, within))

-- a quantile more
pub quantiles-more : (q : ℕ) (rows : List SampledRow) (j place : ℕ) (d row : SampledRow) (keys : List (List Cell)) (cells : List Cell)
    → place ≡ quantile_place q (length rows) j → place < length rows → row ≡ get_or rows place d → cells ≡ row.key
    → keys ≡ map (quantile_at q rows) (range_with_len 0 j)
    → keys ++ cells ∷ [] ≡ map (quantile_at q rows) (range_with_len 0 (j + 1))
quantiles-more q rows j place d row keys cells at within is key so_far =
    let one : cells ≡ quantile_at q rows j =
    key ∙ ap (λ (s : SampledRow). s.key) is ∙ key-at rows place d within ∙ ap (λ i. get_or (map (λ s. s.key) rows) i []) at in
    (λ i. so_far i ++ one i ∷ []) ∙ sym (map-range_with_len_more (quantile_at q rows) 0 j j (omega arith))

-- values with equal parts are equal
pub same_value : (keys more : List (List Cell)) (m n seed : ℕ) → keys ≡ more → m ≡ n
    → ◌≡◌ {A = SampleValue} (record { quantiles = keys; rows = m; seed = seed }) (record { quantiles = more; rows = n; seed = seed })
same_value keys more m n seed quantiles rows = λ i. record { quantiles = quantiles i; rows = rows i; seed = seed }
