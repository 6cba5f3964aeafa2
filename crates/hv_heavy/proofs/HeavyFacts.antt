-- Heavy hitters of one cell more, of counts that are cut, and of the cells of two summaries.
use Rattle.std.proofs.Common.{◌≡◌, ◌≤◌, ◌<◌, ◌+◌, ◌-◌, ◌*◌, ◌++◌, ◌^◌, ℕ, List, [], ◌∷◌, true, false, refl, sym, ap, subst, length, arith, ◌∙◌}
use Rattle.std.specs.Prelude.{not, count_by, if◌then◌else◌, IsPermutation}
use Rattle.std.proofs.lemmas.List.{append-nil, length-append}
use Rattle.std.proofs.lemmas.List.Sorted.{sum_by-IsPermutation}
use Rattle.std.proofs.lemmas.List.Sums.{count_by-le-length, length-filter, sum_by-append}
use Rattle.hv_value.specs.declared.cell.Cell.{Cell}
use Rattle.hv_value.specs.declared.cell.Cell.TheVariants as cell
use Rattle.hv_value.specs.Rows.{Row}
use Rattle.hv_sketch.proofs.ColumnFacts.{cells-append, length-cells}
use Rattle.hv_sketch.specs.ColumnCells.{cells_in, is_missing}
use Rattle.hv_sketch.specs.Merging.{CanMerge}
use Rattle.hv_heavy.specs.Counting.{CountsOne, IsGathered, counted}
use Rattle.hv_heavy.specs.Heavy.{AreHeavy, AreHeavyIn, IsHeavy, IsHeavyOf, IsNear, count_of, estimate, estimate_at, is_same, total, values_of}
use Rattle.hv_heavy.specs.HeavyLaws.{IsNear-moved, count-append, missing-append, number-append, values-append}
use Rattle.hv_heavy.specs.declared.counts.ValueCounts.{ValueCounts}
use Rattle.hv_heavy.specs.declared.misra_gries.Gathering.{Gathering}
use Rattle.hv_heavy.specs.declared.summary.HeavyPair.{HeavyPair}
use Rattle.hv_heavy.specs.declared.summary.HeavySummary.{HeavySummary}
use Rattle.hv_heavy.proofs.Near.{near-both, near-same}

-- what a list of pairs that was made of two others is: heavy hitters of all counts to which the two are near
abbrev pub AreSum : ℕ → List HeavyPair → List HeavyPair → List HeavyPair → Type 0
AreSum k a b pairs = (n : ℕ) (count : Cell → ℕ) → IsNear k n count (a ++ b) → AreHeavy k n count pairs

-- the sum of the estimates is at most the number of the values
pub near-total : (k n : ℕ) (count : Cell → ℕ) (pairs : List HeavyPair) → IsNear k n count pairs → total pairs ≤ n
near-total k n count pairs h = most ((k + 1) * (count cell.Missing - estimate pairs cell.Missing)) (total pairs) n (h.near cell.Missing)
  where
    most : (lost t n : ℕ) → lost + t ≤ n → t ≤ n
    most lost t n le = omega arith

-- there are at most as many values as cells
pub values-few : (cells : List Cell) → length (values_of cells) ≤ length cells
values-few cells = omega (arith, length-filter (λ c. not (is_missing c)) cells, count_by-le-length (λ c. not (is_missing c)) cells)

-- the order of the pairs doesn't matter to the bounds
pub near-permuted : (k n : ℕ) (count : Cell → ℕ) (a b c : List HeavyPair) → IsPermutation b c → IsNear k n count (a ++ b) → IsNear k n count (a ++ c)
near-permuted k n count a b c moved h =
    near-same k n count (a ++ b) (a ++ c)
    (λ value. sum_by-append (estimate_at value) a b ∙ ap (λ e. estimate a value + e) (sym (sum_by-IsPermutation (estimate_at value) b c moved))
    ∙ sym (sum_by-append (estimate_at value) a c))
    (sum_by-append (λ (p : HeavyPair). p.estimate) a b ∙ ap (λ t. total a + t) (sym (sum_by-IsPermutation (λ (p : HeavyPair). p.estimate) b c moved))
    ∙ sym (sum_by-append (λ (p : HeavyPair). p.estimate) a c))
    h

-- one value more, in its count and in its estimate
near-one : (k n : ℕ) (f g : Cell → ℕ) (more : Cell → ℕ) (old new : List HeavyPair) → ((value : Cell) → g value ≡ f value + more value)
    → ((value : Cell) → estimate new value ≡ estimate old value + more value) → total new ≡ total old + 1
    → IsNear k n f old → IsNear k (n + 1) g new
near-one k n f g more old new counts estimates totals h =
    record {
      low = λ value. omega (arith, counts value, estimates value, h.low value);
      near =
          λ value. rw (counts value, estimates value, totals)
          (beside (k + 1) (f value) (estimate old value) (more value) (total old) n (h.near value));
    }
  where
    beside : (m c e d t n : ℕ) → m * (c - e) + t ≤ n → m * ((c + d) - (e + d)) + (t + 1) ≤ n + 1
    beside m c e d t n le =
        let same : (c + d) - (e + d) ≡ c - e = omega arith in
        rw same (omega arith)

module _ (k : ℕ) (cells : List Cell) (c : Cell) (kept : Gathering) (h : IsGathered k cells kept) (room : length cells < 2 ^ 42) where
  few-more : length (cells ++ c ∷ []) ≤ 2 ^ 42
  few-more = simp length-append (omega arith)

  -- one missing cell more
  pub gathered-missing : is_missing c ≡ true → IsGathered k (cells ++ c ∷ []) (record { missing = kept.missing + 1; n = kept.n; done = kept.done; counts = kept.counts })
  gathered-missing gone =
      let none : values_of (c ∷ []) ≡ [] = rw gone refl in
      let one : count_by is_missing (c ∷ []) ≡ 1 = rw gone refl in
      let same : values_of (cells ++ c ∷ []) ≡ values_of cells = values-append cells (c ∷ []) ∙ ap (λ l. values_of cells ++ l) none ∙ append-nil (values_of cells) in
      record {
        few = few-more;
        n = h.n ∙ ap length (sym same);
        missing = omega (arith, h.missing, missing-append cells (c ∷ []), one);
        rises = h.rises;
        near = IsNear-moved k _ _ _ _ (kept.done ++ counted kept.counts) (ap length (sym same)) (λ value. ap (count_by (is_same value)) (sym same)) h.near;
      }

  -- one that isn't missing
  pub gathered-value : (new : ValueCounts) → is_missing c ≡ false → CountsOne c (counted kept.counts) (counted new)
      → IsGathered k (cells ++ c ∷ []) (record { missing = kept.missing; n = kept.n + 1; done = kept.done; counts = new })
  gathered-value new there counts =
      let none : count_by is_missing (c ∷ []) ≡ 0 = rw there refl in
      let one : values_of (c ∷ []) ≡ c ∷ [] = rw there refl in
      let number : length (values_of (cells ++ c ∷ [])) ≡ length (values_of cells) + 1 = number-append cells (c ∷ []) ∙ ap (λ l. length (values_of cells) + length l) one in
      record {
        few = few-more;
        n = omega (arith, h.n, number);
        missing = omega (arith, h.missing, missing-append cells (c ∷ []), none);
        rises = h.rises;
        near =
            IsNear-moved k _ _ _ _ (kept.done ++ counted new) (sym number) (λ value. refl)
            (near-one k (length (values_of cells)) (count_of cells) (count_of (cells ++ c ∷ [])) (λ value. if is_same value c then 1 else 0)
            (kept.done ++ counted kept.counts) (kept.done ++ counted new)
            (λ value. omega (arith, count-append cells (c ∷ []) value, ap (λ l. count_by (is_same value) l) one))
            (λ value. omega (arith, counts.each value, sum_by-append (estimate_at value) kept.done (counted kept.counts), sum_by-append (estimate_at value) kept.done (counted new)))
            (omega (arith, counts.sum, sum_by-append (λ (p : HeavyPair). p.estimate) kept.done (counted kept.counts), sum_by-append (λ (p : HeavyPair). p.estimate) kept.done (counted new)))
            h.near);
      }

module _ (k : ℕ) (cells : List Cell) (kept : Gathering) (h : IsGathered k cells kept) where
  -- the estimates of what is kept fit together
  pub gathered-fits : total kept.done + total (counted kept.counts) ≤ 2 ^ 42
  gathered-fits =
      omega (
        arith,
        sum_by-append (λ (p : HeavyPair). p.estimate) kept.done (counted kept.counts),
        near-total k (length (values_of cells)) (count_of cells) (kept.done ++ counted kept.counts) h.near,
        values-few cells,
        h.few,
      )

  -- how many cells aren't missing, and how many are
  pub gathered-n : kept.n ≤ length cells
  gathered-n = omega (arith, h.n, values-few cells)

  pub gathered-gone : kept.missing ≤ length cells
  gathered-gone = omega (arith, h.missing, count_by-le-length is_missing cells)

  -- the counts are cut
  pub gathered-cut : (pairs : List HeavyPair) (none : ValueCounts) → counted none ≡ [] → AreSum k kept.done (counted kept.counts) pairs
      → IsGathered k cells (record { missing = kept.missing; n = kept.n; done = pairs; counts = none })
  gathered-cut pairs none empty made =
      let heavy : AreHeavyIn k cells pairs = made _ _ h.near in
      record {
        few = h.few;
        n = h.n;
        missing = h.missing;
        rises = heavy.rises;
        near = subst (λ l. IsNear k (length (values_of cells)) (count_of cells) l) (sym (ap (λ l. pairs ++ l) empty ∙ append-nil pairs)) heavy.near;
      }

  -- and what is left is a summary
  pub gathered-heavy : (pairs : List HeavyPair) → AreSum k kept.done (counted kept.counts) pairs
      → IsHeavyOf k cells (record { missing = kept.missing; n = kept.n; pairs = pairs })
  gathered-heavy pairs made = record { few = h.few; n = h.n; missing = h.missing; pairs = made _ _ h.near }

-- the numbers and the estimates of a summary fit
pub heavy-fits : (col k : ℕ) (rows : List Row) (s : HeavySummary) → IsHeavy col k rows s → (s.n ≤ 2 ^ 42) × (s.missing ≤ 2 ^ 42) × (total s.pairs ≤ 2 ^ 42)
heavy-fits col k rows s h =
    let n : s.n ≤ 2 ^ 42 = omega (arith, h.n, values-few (cells_in col rows), h.few) in
    let missing : s.missing ≤ 2 ^ 42 = omega (arith, h.missing, count_by-le-length is_missing (cells_in col rows), h.few) in
    let sum : total s.pairs ≤ 2 ^ 42 = omega (arith, near-total k _ _ s.pairs h.pairs.near, h.n, n) in
    (n, missing, sum)

-- the heavy hitters of the cells of two lists
heavy-cells : (k : ℕ) (a b : List Cell) (s t : HeavySummary) (pairs : List HeavyPair) → IsHeavyOf k a s → IsHeavyOf k b t → length a + length b ≤ 2 ^ 42
    → AreSum k s.pairs t.pairs pairs → IsHeavyOf k (a ++ b) (record { missing = s.missing + t.missing; n = s.n + t.n; pairs = pairs })
heavy-cells k a b s t pairs left right few made =
    record {
      few = simp length-append few;
      n = omega (arith, left.n, right.n, number-append a b);
      missing = omega (arith, left.missing, right.missing, missing-append a b);
      pairs =
          made _ _
          (IsNear-moved k _ _ _ _ (s.pairs ++ t.pairs) (sym (number-append a b)) (λ value. sym (count-append a b value))
          (near-both k _ _ _ _ s.pairs t.pairs left.pairs.near right.pairs.near));
    }

-- and of the rows of two summaries
pub heavy-sum : (col k : ℕ) (a b : List Row) (s t : HeavySummary) (pairs : List HeavyPair) → IsHeavy col k a s → IsHeavy col k b t → CanMerge a b
    → AreSum k s.pairs t.pairs pairs → IsHeavy col k (a ++ b) (record { missing = s.missing + t.missing; n = s.n + t.n; pairs = pairs })
heavy-sum col k a b s t pairs left right merge made =
    rw (cells-append col a b)
    (heavy-cells k (cells_in col a) (cells_in col b) s t pairs left right (omega (arith, length-cells col a, length-cells col b, merge.few)) made)
