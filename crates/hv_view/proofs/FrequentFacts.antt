-- The frequent ones among heavy hitters that were counted are all frequent values.
use Rattle.std.proofs.Common.{◌≡◌, ◌∙◌, ◌<◌, ◌≤◌, ◌+◌, ◌*◌, ◌++◌, refl, sym, ap, subst, ℕ, zero, suc, List, [], ◌∷◌, Bool, true, false, cond, if◌then◌else◌, length, map, get_or, append_assoc, arith}
use Rattle.std.specs.Prelude.{count_by, filter, not}
use Rattle.std.proofs.lemmas.Bool.{false≢true, lt-ltb, ltb-true, true≢false}
use Rattle.std.proofs.lemmas.List.Sums.{sum_by-append, sum_by-cons}
use Rattle.std.specs.List.{All, AllByRecursion, Contains, list_all}
use Rattle.std.specs.declared.cmp.Ordering.{Ordering}
use Rattle.std.specs.declared.cmp.Ordering.TheVariants.{Less, Equal, Greater}
use Rattle.hv_value.specs.declared.cell.Cell.{Cell}
use Rattle.hv_value.specs.declared.cell.Cell.TheVariants as cell
use Rattle.hv_value.specs.declared.cell.Kind.{Kind}
use Rattle.hv_value.specs.declared.cell.Kind.TheVariants as kind
use Rattle.hv_value.specs.Cells.{is_of_kind}
use Rattle.hv_value.specs.CellOrder.{cells_total}
use Rattle.hv_value.specs.Order.{compare_cells}
use Rattle.hv_value.specs.Rows.{Row}
use Rattle.hv_sketch.specs.ColumnCells.{cells_in, is_missing}
use Rattle.hv_sketch.specs.Rising.{IsAbove, IsRising}
use Rattle.hv_heavy.specs.CountOf.{counts_of, is_value_of}
use Rattle.hv_heavy.specs.Heavy.{HasPair, IsHeavy, count_of, estimate, estimate_at, is_same, values_of}
use Rattle.hv_heavy.specs.Heavy as heavy
use Rattle.hv_heavy.specs.declared.summary.HeavyPair.{HeavyPair}
use Rattle.hv_heavy.specs.declared.summary.HeavySummary.{HeavySummary}
use Rattle.hv_heavy.proofs.Near.{frequent-some, pair-of_estimate, same-is}
use Rattle.hv_heavy.proofs.PlaceFacts.{same-itself}
use Rattle.hv_view.specs.Frequent.{HasValue, IsCounted, IsFrequent, by_value, frequent_among, is_frequent, pair_values, paired}
use Rattle.hv_view.specs.declared.frequent.FrequentPair.{FrequentPair}

-- an element in the midst of a list has what all have
at-middle : (before after : List HeavyPair) (pair : HeavyPair) → All (λ (p : HeavyPair). 1 ≤ p.estimate) (before ++ pair ∷ after) → 1 ≤ pair.estimate
at-middle [] after pair all = all 0 pair (omega arith)
at-middle (x ∷ before) after pair all = at-middle before after pair (λ i d within. all (suc i) d (omega (arith, within)))

module _ (cells : List Cell) (k n : ℕ) where
  -- the pair of a value with its count
  abbrev counted : Cell → FrequentPair
  counted value = record { value = value; count = count_of cells value }

  -- the pairs of the values of heavy hitters
  abbrev made : List HeavyPair → List FrequentPair
  made pairs = filter (is_frequent k n) (paired (pair_values pairs) (map (count_of cells) (pair_values pairs)))

  -- a value below the first of some pairs is below the first of those that stay
  stays-above : (x : HeavyPair) (pairs : List HeavyPair) → IsAbove heavy.by_value x pairs → IsRising heavy.by_value pairs
      → IsAbove by_value (counted x.value) (made pairs)
  stays-above x [] above rises = tt
  stays-above x (pair ∷ pairs) above rises = by (is_frequent k n (counted pair.value)) (stays-above x pairs (next pairs rises.0) rises.1)
    where
      next : (more : List HeavyPair) → IsAbove heavy.by_value pair more → IsAbove heavy.by_value x more
      next [] up = tt
      next (y ∷ ys) up = cells_total.trans x.value pair.value y.value above up

      by : (b : Bool) → IsAbove by_value (counted x.value) (made pairs)
          → IsAbove by_value (counted x.value) (if b then counted pair.value ∷ made pairs else made pairs)
      by true rest = above
      by false rest = rest

  -- those that stay rise
  made-rises : (pairs : List HeavyPair) → IsRising heavy.by_value pairs → IsRising by_value (made pairs)
  made-rises [] rises = tt
  made-rises (pair ∷ pairs) rises = by (is_frequent k n (counted pair.value)) (made-rises pairs rises.1)
    where
      by : (b : Bool) → IsRising by_value (made pairs) → IsRising by_value (if b then counted pair.value ∷ made pairs else made pairs)
      by true rest = (stays-above pair pairs rises.0 rises.1, rest)
      by false rest = rest

  -- each has its count, and is frequent
  made-counted : (pairs : List HeavyPair) → AllByRecursion (IsCounted k n cells) (made pairs)
  made-counted [] = tt
  made-counted (pair ∷ pairs) = by (is_frequent k n (counted pair.value)) refl (made-counted pairs)
    where
      by : (b : Bool) → is_frequent k n (counted pair.value) ≡ b → AllByRecursion (IsCounted k n cells) (made pairs)
          → AllByRecursion (IsCounted k n cells) (if b then counted pair.value ∷ made pairs else made pairs)
      by true e rest = ((refl, ltb-true n ((k + 1) * count_of cells pair.value) e), rest)
      by false e rest = rest

  -- one more in front
  later : (x : FrequentPair) (xs : List FrequentPair) (value : Cell) → HasValue xs value → HasValue (x ∷ xs) value
  later x xs value h = (h.0, (suc h.1.0, omega (arith, h.1.1), h.1.2), h.2)

  -- a frequent value among the heavy hitters stays
  made-has : (pairs : List HeavyPair) (value : Cell) (i : ℕ) (d : HeavyPair) → i < length pairs → (get_or pairs i d).value ≡ value
      → n < (k + 1) * count_of cells value → HasValue (made pairs) value
  made-has [] value i d within is many = absurd (omega (arith, within))
  made-has (pair ∷ pairs) value zero d within is many =
      let here : is_frequent k n (counted pair.value) ≡ true = lt-ltb n ((k + 1) * count_of cells pair.value) (subst (λ v. n < (k + 1) * count_of cells v) (sym is) many) in
      rw here (counted pair.value, (zero, omega arith, refl), is)
  made-has (pair ∷ pairs) value (suc i) d within is many = by (is_frequent k n (counted pair.value)) (made-has pairs value i d (omega (arith, within)) is many)
    where
      by : (b : Bool) → HasValue (made pairs) value → HasValue (if b then counted pair.value ∷ made pairs else made pairs) value
      by true rest = later (counted pair.value) (made pairs) value rest
      by false rest = rest

-- a value that some of a column's cells are is one of their kind
value-is : (k : Kind) (c : Cell) → is_missing c ≡ false → is_of_kind k c ≡ true → is_value_of k c ≡ true
value-is k cell.Missing there is = absurd (true≢false there)
value-is kind.Int (cell.Int n) there is = refl
value-is kind.Date (cell.Date day) there is = refl
value-is kind.Text (cell.Text text) there is = refl
value-is kind.Int (cell.Date day) there is = absurd (false≢true is)
value-is kind.Int (cell.Text text) there is = absurd (false≢true is)
value-is kind.Date (cell.Int n) there is = absurd (false≢true is)
value-is kind.Date (cell.Text text) there is = absurd (false≢true is)
value-is kind.Text (cell.Int n) there is = absurd (false≢true is)
value-is kind.Text (cell.Date day) there is = absurd (false≢true is)

counted-is : (k : Kind) (value : Cell) (cells : List Cell) → AllByRecursion (λ c. is_of_kind k c ≡ true) cells → 1 ≤ count_of cells value
    → is_value_of k value ≡ true
counted-is k value [] all some = absurd (omega (arith, some))
counted-is k value (c ∷ cells) all some = by (is_missing c) refl (is_same value c) refl (counted-is k value cells all.1)
  where
    by : (m : Bool) → is_missing c ≡ m → (b : Bool) → is_same value c ≡ b → (1 ≤ count_of cells value → is_value_of k value ≡ true) → is_value_of k value ≡ true
    by true missing b same rest = rest (subst (λ t. 1 ≤ count_by (is_same value) (if not t then c ∷ values_of cells else values_of cells)) missing some)
    by false there true same rest = subst (λ v. is_value_of k v ≡ true) (sym (same-is value c same)) (value-is k c there all.0)
    by false there false other rest =
        let more : 1 ≤ count_by (is_same value) (c ∷ values_of cells) =
        subst (λ t. 1 ≤ count_by (is_same value) (if not t then c ∷ values_of cells else values_of cells)) there some in
        rest (omega (arith, more, sum_by-cons (λ x. cond (is_same value x) 1 0) c (values_of cells), ap {B = ℕ} (λ b. cond b 1 0) other))

-- the estimate of a pair's value is at least the pair's
own-estimate : (before after : List HeavyPair) (pair : HeavyPair) → pair.estimate ≤ estimate (before ++ pair ∷ after) pair.value
own-estimate before after pair =
    omega (
      arith,
      sum_by-append (estimate_at pair.value) before (pair ∷ after),
      sum_by-cons (estimate_at pair.value) pair after,
      ap (λ b. if b then pair.estimate else 0) (same-itself pair.value),
    )

-- so the values of a column's heavy hitters are of its kind
pub heavy-values : (k : Kind) (col size : ℕ) (rows : List Row) (found : HeavySummary) → AllByRecursion (λ c. is_of_kind k c ≡ true) (cells_in col rows)
    → IsHeavy col size rows found → list_all (is_value_of k) (pair_values found.pairs) ≡ true
heavy-values k col size rows found all h = from [] found.pairs refl h.pairs.some
  where
    from : (before after : List HeavyPair) → found.pairs ≡ before ++ after → All (λ (pair : HeavyPair). 1 ≤ pair.estimate) found.pairs
        → list_all (is_value_of k) (pair_values after) ≡ true
    from before [] e some = refl
    from before (pair ∷ after) e some =
        let there : 1 ≤ pair.estimate = at-middle before after pair (subst (All (λ (p : HeavyPair). 1 ≤ p.estimate)) e some) in
        let own : pair.estimate ≤ estimate found.pairs pair.value = subst (λ l. pair.estimate ≤ estimate l pair.value) (sym e) (own-estimate before after pair) in
        let one : is_value_of k pair.value ≡ true = counted-is k pair.value (cells_in col rows) all (omega (arith, there, own, h.pairs.near.low pair.value)) in
        rw one (from (before ++ pair ∷ []) after (e ∙ sym (append_assoc before (pair ∷ []) after)) some)

-- so the frequent ones among heavy hitters of rows, counted there, are all frequent values
pub all-frequent : (col k : ℕ) (rows : List Row) (found : HeavySummary) → IsHeavy col k rows found
    → IsFrequent col k rows (frequent_among k (pair_values found.pairs) (counts_of col (pair_values found.pairs) rows))
all-frequent col k rows found h =
    let cells = cells_in col rows in
    let value = frequent_among k (pair_values found.pairs) (counts_of col (pair_values found.pairs) rows) in
    record {
      n = refl;
      missing = refl;
      rises = made-rises cells k value.n found.pairs h.pairs.rises;
      each = made-counted cells k value.n found.pairs;
      all = λ v many.
          let pair : HasPair found.pairs v = pair-of_estimate found.pairs v (frequent-some k value.n (count_of cells) found.pairs v h.pairs.near many) in
          made-has cells k value.n found.pairs v pair.1.0 pair.0 pair.1.1 (ap (λ (p : HeavyPair). p.value) pair.1.2 ∙ pair.2) many;
    }
