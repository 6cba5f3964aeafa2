-- Counts of values in maps: one value more, each value once, and sorted by their values.
use Rattle.std.proofs.Common.{◌≡◌, ◌≤◌, ◌<◌, ◌+◌, ◌++◌, ◌^◌, ℕ, suc, List, [], ◌∷◌, Bool, true, false, Option, Some, None, refl, sym, ap, cond, length, take, drop, arith, ◌∙◌}
use Rattle.std.specs.Prelude.{ℤ, sum_by, count_by, unwrap_or, MatchOption, if◌then◌else◌, IsPermutation, string_bytes}
use Rattle.std.specs.declared.string.String.{String}
use Rattle.std.specs.List.{AllByRecursion, IsDistinct}
use Rattle.std.specs.List.Sorted.{IsSorted}
use Rattle.std.specs.Map.{keys_of, lookup, set_value, values_of}
use Rattle.std.specs.Ordering.{int_eq, is_eq, is_lt, ordering_reverse}
use Rattle.std.specs.String.{string_eq}
use Rattle.std.specs.declared.cmp.Ordering.{Ordering}
use Rattle.std.specs.declared.cmp.Ordering.TheVariants.{Less, Equal, Greater}
use Rattle.std.proofs.lemmas.Bool.{true≢false}
use Rattle.std.proofs.lemmas.Bool.Decides.{Decides-int_eq}
use Rattle.std.proofs.lemmas.Cmp.{tied_itself}
use Rattle.std.proofs.lemmas.List.{take-append-le, take_all}
use Rattle.std.proofs.lemmas.List.Sorted.{IsPermutation-map, sum_by-IsPermutation}
use Rattle.std.proofs.lemmas.List.Sums.{sum_by-append, sum_by-cons}
use Rattle.std.proofs.lemmas.Map.Steps.{lookup-le-sum}
use Rattle.std.proofs.lemmas.Slice.Eq.{bytes_eq-Decides}
use Rattle.hv_value.specs.declared.cell.Cell.{Cell}
use Rattle.hv_value.specs.declared.cell.Cell.TheVariants as cell
use Rattle.hv_value.specs.CellOrder.{cells_same, cells_total}
use Rattle.hv_value.specs.Order.{compare_cells}
use Rattle.hv_sketch.specs.Rising.{IsRising}
use Rattle.hv_heavy.specs.Counting.{CountsOne, pairs_of, text_cell}
use Rattle.hv_heavy.specs.Heavy.{by_value, estimate, estimate_at, is_same, total}
use Rattle.hv_heavy.specs.PairOrder.{pairs_total}
use Rattle.hv_heavy.specs.declared.summary.HeavyPair.{HeavyPair}
use Rattle.hv_heavy.proofs.Near.{same-is}

-- whether a pair is of a value
abbrev pub is_of : Cell → HeavyPair → Bool
is_of value pair = is_same value pair.value

abbrev pub pair : Cell → ℕ → HeavyPair
pair value estimate = record { value = value; estimate = estimate }

-- an estimate with one more
estimate-one : (other value : Cell) (n : ℕ) → estimate_at other (pair value (n + 1)) ≡ estimate_at other (pair value n) + (if is_same other value then 1 else 0)
estimate-one other value n = by (is_same other value)
  where
    by : (b : Bool) → (if b then n + 1 else 0) ≡ (if b then n else 0) + (if b then 1 else 0)
    by true = refl
    by false = refl

module _ {K : Type 0} (cell_of : K → Cell) where
  -- the count of a key that is there rises by one
  sum-raised : (f : HeavyPair → ℕ) (value : Cell) (more n : ℕ) → f (pair value (n + 1)) ≡ f (pair value n) + more
      → (is : K → Bool) → ((key : K) → is key ≡ true → cell_of key ≡ value) → (es : List (K × ℕ)) → lookup is es ≡ Some n
      → sum_by f (pairs_of cell_of (set_value is es (n + 1))) ≡ sum_by f (pairs_of cell_of es) + more
  sum-raised f value more n step is passes [] found = cc
  sum-raised f value more n step is passes (e ∷ es) found =
      by (is e.0) refl (sum-raised f value more n step is passes es)
    where
      by : (b : Bool) → is e.0 ≡ b
          → (lookup is es ≡ Some n → sum_by f (pairs_of cell_of (set_value is es (n + 1))) ≡ sum_by f (pairs_of cell_of es) + more)
          → sum_by f (pairs_of cell_of (set_value is (e ∷ es) (n + 1))) ≡ sum_by f (pairs_of cell_of (e ∷ es)) + more
      by true here_is rest =
          let here : cell_of e.0 ≡ value = passes e.0 here_is in
          let first : Some e.1 ≡ Some n = rw here_is at found in
          let count : e.1 ≡ n = cc first in
          let new : set_value is (e ∷ es) (n + 1) ≡ (e.0, n + 1) ∷ es = rw here_is refl in
          ap (λ l. sum_by f (pairs_of cell_of l)) new
          ∙ omega (
            arith,
            sum_by-cons f (pair (cell_of e.0) (n + 1)) (pairs_of cell_of es),
            sum_by-cons f (pair (cell_of e.0) e.1) (pairs_of cell_of es),
            ap (λ v. f (pair v (n + 1))) here,
            ap (λ v. f (pair v e.1)) here,
            ap (λ m. f (pair value m)) count,
            step,
          )
      by false other_is rest =
          let later : lookup is es ≡ Some n = rw other_is at found in
          let new : set_value is (e ∷ es) (n + 1) ≡ e ∷ set_value is es (n + 1) = rw other_is refl in
          ap (λ l. sum_by f (pairs_of cell_of l)) new
          ∙ omega (
            arith,
            sum_by-cons f (pair (cell_of e.0) e.1) (pairs_of cell_of (set_value is es (n + 1))),
            sum_by-cons f (pair (cell_of e.0) e.1) (pairs_of cell_of es),
            rest later,
          )

  pub counts-raised : (value : Cell) (n : ℕ) (is : K → Bool) → ((key : K) → is key ≡ true → cell_of key ≡ value) → (es new : List (K × ℕ))
      → lookup is es ≡ Some n → new ≡ set_value is es (n + 1) → CountsOne value (pairs_of cell_of es) (pairs_of cell_of new)
  counts-raised value n is passes es new found made =
      rw made record {
        each = λ other. sum-raised (estimate_at other) value _ n (estimate-one other value n) is passes es found;
        sum = sum-raised (λ p. p.estimate) value 1 n refl is passes es found;
      }

  -- a key comes in with a count of one
  sum-new : (f : HeavyPair → ℕ) (key : K) (es new : List (K × ℕ)) → IsPermutation ((key, 1) ∷ es) new
      → sum_by f (pairs_of cell_of new) ≡ sum_by f (pairs_of cell_of es) + f (pair (cell_of key) 1)
  sum-new f key es new moved =
      sum_by-IsPermutation f _ _ (IsPermutation-map (λ (e : K × ℕ). pair (cell_of e.0) e.1) ((key, 1) ∷ es) new moved)
      ∙ omega (arith, sum_by-cons f (pair (cell_of key) 1) (pairs_of cell_of es))

  pub counts-new : (value : Cell) (key : K) → cell_of key ≡ value → (es new : List (K × ℕ)) → IsPermutation ((key, 1) ∷ es) new
      → CountsOne value (pairs_of cell_of es) (pairs_of cell_of new)
  counts-new value key same es new moved =
      record {
        each = λ other. sum-new (estimate_at other) key es new moved ∙ ap (λ v. estimate (pairs_of cell_of es) other + (if is_same other v then 1 else 0)) same;
        sum = sum-new (λ p. p.estimate) key es new moved;
      }

  -- the total is the sum of the counts
  pub total-of : (es : List (K × ℕ)) → total (pairs_of cell_of es) ≡ sum_by (λ n. n) (values_of es)
  total-of [] = refl
  total-of (e ∷ es) =
      omega (arith, sum_by-cons (λ (p : HeavyPair). p.estimate) (pair (cell_of e.0) e.1) (pairs_of cell_of es), total-of es, sum_by-cons (λ n. n) e.1 (values_of es))

  -- keys that differ are of values that differ
  module _ (eq : K → K → Bool) (tied : (x y : K) → cell_of x ≡ cell_of y → eq x y ≡ true) where
    none-later : (value : Cell) (x : K) (es : List (K × ℕ)) → is_same value (cell_of x) ≡ true → AllByRecursion (λ y. eq x y ≡ false) (keys_of es)
        → count_by (is_of value) (pairs_of cell_of es) ≡ 0
    none-later value x [] here apart = refl
    none-later value x (e ∷ es) here apart = by (is_same value (cell_of e.0)) refl (none-later value x es here apart.1)
      where
        by : (b : Bool) → is_same value (cell_of e.0) ≡ b → count_by (is_of value) (pairs_of cell_of es) ≡ 0
            → count_by (is_of value) (pairs_of cell_of (e ∷ es)) ≡ 0
        by true there rest =
            absurd (true≢false (sym (tied x e.0 (sym (same-is value (cell_of x) here) ∙ same-is value (cell_of e.0) there)) ∙ apart.0))
        by false there rest =
            omega (
              arith,
              sum_by-cons (λ p. cond (is_of value p) 1 0) (pair (cell_of e.0) e.1) (pairs_of cell_of es),
              ap {B = ℕ} (λ b. cond b 1 0) there,
            )

    pub once-of : (es : List (K × ℕ)) → IsDistinct eq (keys_of es) → (value : Cell) → count_by (is_of value) (pairs_of cell_of es) ≤ 1
    unfolding IsDistinct
    once-of [] distinct value = omega arith
    once-of (e ∷ es) distinct value = by (is_same value (cell_of e.0)) refl (once-of es distinct.1 value)
      where
        by : (b : Bool) → is_same value (cell_of e.0) ≡ b → count_by (is_of value) (pairs_of cell_of es) ≤ 1
            → count_by (is_of value) (pairs_of cell_of (e ∷ es)) ≤ 1
        by true there rest =
            omega (
              arith,
              sum_by-cons (λ p. cond (is_of value p) 1 0) (pair (cell_of e.0) e.1) (pairs_of cell_of es),
              ap {B = ℕ} (λ b. cond b 1 0) there,
              none-later value e.0 es there distinct.0,
            )
        by false there rest =
            omega (
              arith,
              sum_by-cons (λ p. cond (is_of value p) 1 0) (pair (cell_of e.0) e.1) (pairs_of cell_of es),
              ap {B = ℕ} (λ b. cond b 1 0) there,
            )

  -- cells of another kind aren't the value
  pub none-of : (value : Cell) → ((key : K) → is_same value (cell_of key) ≡ false) → (es : List (K × ℕ)) → count_by (is_of value) (pairs_of cell_of es) ≡ 0
  none-of value other [] = refl
  none-of value other (e ∷ es) =
      omega (
        arith,
        sum_by-cons (λ p. cond (is_of value p) 1 0) (pair (cell_of e.0) e.1) (pairs_of cell_of es),
        ap {B = ℕ} (λ b. cond b 1 0) (other e.0),
        none-of value other es,
      )

-- one more in one of two lists of pairs is one more in both
pub counts-left : (value : Cell) (a new b : List HeavyPair) → CountsOne value a new → CountsOne value (a ++ b) (new ++ b)
counts-left value a new b h =
    record {
      each = λ other. omega (arith, h.each other, sum_by-append (estimate_at other) a b, sum_by-append (estimate_at other) new b);
      sum = omega (arith, h.sum, sum_by-append (λ (p : HeavyPair). p.estimate) a b, sum_by-append (λ (p : HeavyPair). p.estimate) new b);
    }

pub counts-right : (value : Cell) (a b new : List HeavyPair) → CountsOne value b new → CountsOne value (a ++ b) (a ++ new)
counts-right value a b new h =
    record {
      each = λ other. omega (arith, h.each other, sum_by-append (estimate_at other) a b, sum_by-append (estimate_at other) a new);
      sum = omega (arith, h.sum, sum_by-append (λ (p : HeavyPair). p.estimate) a b, sum_by-append (λ (p : HeavyPair). p.estimate) a new);
    }

-- sorted pairs of values that are each there once rise
pub sorted-rises : (xs : List HeavyPair) → IsSorted by_value xs → ((value : Cell) → count_by (is_of value) xs ≤ 1) → IsRising by_value xs
sorted-rises [] sorted once = tt
sorted-rises (x ∷ []) sorted once = (tt, tt)
sorted-rises (x ∷ y ∷ ys) sorted once = (by (by_value y x) refl, sorted-rises (y ∷ ys) later rest)
  where
    later : IsSorted by_value (y ∷ ys)
    later k d low high =
        let more : suc k + 1 ≡ suc (k + 1) = omega arith in
        rw more at (sorted (suc k) d (omega arith) (omega (arith, high)))

    rest : (value : Cell) → count_by (is_of value) (y ∷ ys) ≤ 1
    rest value = omega (arith, once value, sum_by-cons (λ p. cond (is_of value p) 1 0) x (y ∷ ys))

    turned : is_lt (by_value y x) ≡ false
    turned = sorted 0 x (omega arith) (omega arith)

    itself : is_of x.value x ≡ true
    itself = ap is_eq (tied_itself cells_total x.value)

    by : (o : Ordering) → by_value y x ≡ o → by_value x y ≡ Less
    by Less e = absurd (true≢false (sym (ap is_lt e) ∙ turned))
    by Equal e =
        let there : is_of x.value y ≡ true = ap (is_same x.value) (cells_same y.value x.value e) ∙ itself in
        absurd (omega (
          arith,
          once x.value,
          sum_by-cons (λ p. cond (is_of x.value p) 1 0) x (y ∷ ys),
          sum_by-cons (λ p. cond (is_of x.value p) 1 0) y ys,
          ap {B = ℕ} (λ b. cond b 1 0) itself,
          ap {B = ℕ} (λ b. cond b 1 0) there,
        ))
    by Greater e = pairs_total.antisymm x y ∙ ap ordering_reverse e

-- each value is there once among the counts of all kinds, since a value is of one kind
pub once-all : (ints days : List (ℤ × ℕ)) (A : Type 0) (texts : List (String A × ℕ))
    → ((value : Cell) → count_by (is_of value) (pairs_of cell.Int ints) ≤ 1)
    → ((value : Cell) → count_by (is_of value) (pairs_of cell.Date days) ≤ 1)
    → ((value : Cell) → count_by (is_of value) (pairs_of (text_cell {A = A}) texts) ≤ 1)
    → (value : Cell) → count_by (is_of value) (pairs_of cell.Int ints ++ pairs_of cell.Date days ++ pairs_of (text_cell {A = A}) texts) ≤ 1
unfolding compare_cells
once-all ints days A texts first second third value = by value
  where
    parts : (value : Cell) → count_by (is_of value) (pairs_of cell.Int ints ++ pairs_of cell.Date days ++ pairs_of (text_cell {A = A}) texts)
        ≡ count_by (is_of value) (pairs_of cell.Int ints) + count_by (is_of value) (pairs_of cell.Date days) + count_by (is_of value) (pairs_of (text_cell {A = A}) texts)
    parts value =
        sum_by-append (λ p. cond (is_of value p) 1 0) (pairs_of cell.Int ints ++ pairs_of cell.Date days) (pairs_of (text_cell {A = A}) texts)
        ∙ ap (λ n. n + count_by (is_of value) (pairs_of (text_cell {A = A}) texts))
        (sum_by-append (λ p. cond (is_of value p) 1 0) (pairs_of cell.Int ints) (pairs_of cell.Date days))

    by : (value : Cell) → count_by (is_of value) (pairs_of cell.Int ints ++ pairs_of cell.Date days ++ pairs_of (text_cell {A = A}) texts) ≤ 1
    by cell.Missing =
        omega (
          arith,
          parts cell.Missing,
          none-of cell.Int cell.Missing (λ key. refl) ints,
          none-of cell.Date cell.Missing (λ key. refl) days,
          third cell.Missing,
        )
    by (cell.Int n) =
        omega (
          arith,
          parts (cell.Int n),
          first (cell.Int n),
          none-of cell.Date (cell.Int n) (λ key. refl) days,
          none-of (text_cell {A = A}) (cell.Int n) (λ key. refl) texts,
        )
    by (cell.Date n) =
        omega (
          arith,
          parts (cell.Date n),
          second (cell.Date n),
          none-of cell.Int (cell.Date n) (λ key. refl) ints,
          none-of (text_cell {A = A}) (cell.Date n) (λ key. refl) texts,
        )
    by (cell.Text t) =
        omega (
          arith,
          parts (cell.Text t),
          third (cell.Text t),
          none-of cell.Int (cell.Text t) (λ key. refl) ints,
          none-of cell.Date (cell.Text t) (λ key. refl) days,
        )

-- a count of a key that is there fits with one more where all do
pub raised-fits : {K : Type 0} (cell_of : K → Cell) (is : K → Bool) (es : List (K × ℕ)) (n : ℕ) → lookup is es ≡ Some n
    → total (pairs_of cell_of es) + 1 < 2 ^ 64 → n + 1 < 2 ^ 64
raised-fits cell_of is es n found fits =
    omega (arith, total-of cell_of es, lookup-le-sum is es, ap (λ o. unwrap_or o 0) found)

-- the pairs of all counts, sorted, rise
pub sorted-counts : (xs ys : List HeavyPair) → IsPermutation xs ys → IsSorted by_value ys → ((value : Cell) → count_by (is_of value) xs ≤ 1) → IsRising by_value ys
sorted-counts xs ys moved sorted once =
    sorted-rises ys sorted (λ value. omega (arith, once value, sum_by-IsPermutation (λ p. cond (is_of value p) 1 0) xs ys moved))

-- keys of one cell are equal
pub tied-ints : (x y : ℤ) → cell.Int x ≡ cell.Int y → int_eq x y ≡ true
tied-ints x y e =
    let same : x ≡ y = cc e in
    (Decides-int_eq x y).1 same

pub tied-days : (x y : ℤ) → cell.Date x ≡ cell.Date y → int_eq x y ≡ true
tied-days x y e =
    let same : x ≡ y = cc e in
    (Decides-int_eq x y).1 same

pub tied-texts : {A : Type 0} (x y : String A) → text_cell x ≡ text_cell y → string_eq x y ≡ true
tied-texts x y e =
    let same : string_bytes x ≡ string_bytes y = cc e in
    (bytes_eq-Decides (string_bytes x) (string_bytes y)).1 same

-- a key that wasn't there was put in
pub counts-entered : {K : Type 0} (cell_of : K → Cell) (value : Cell) (key : K) → cell_of key ≡ value → (es new : List (K × ℕ)) (old : Option ℕ) (P : ℕ → Type 0)
    → old ≡ None → MatchOption old (IsPermutation ((key, 1) ∷ es) new) P → CountsOne value (pairs_of cell_of es) (pairs_of cell_of new)
counts-entered cell_of value key same es new None P none put = counts-new cell_of value key same es new put
counts-entered cell_of value key same es new (Some n) P none put = cc

-- a list that is written over all of another is what is read there
pub written : {X : Type 0} (xs ys : List X) (n : ℕ) → length xs ≡ n → take n (xs ++ drop (length xs) ys) ≡ xs
written xs ys n e =
    let within : n ≤ length xs = omega arith in
    rw take-append-le (take_all n xs (omega arith))
