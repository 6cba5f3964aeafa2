-- The counts of a chart's slots are the parts of its value, and those of the buckets are together at most the rows.
use Rattle.std.proofs.Common.{◌≡◌, ◌≤◌, ◌<◌, ◌+◌, ◌^◌, ◌==◌, ◌∙◌, refl, sym, ap, subst, ℕ, zero, suc, Bool, true, false, cond, eqb, ltb, List, [], ◌∷◌, map, take, get_or, add-one, arith}
use Rattle.std.specs.List.{count_by, range_with_len, sum}
use Rattle.std.proofs.lemmas.Bool.{eq-eqb, eqb-false, eqb-true, le-ltb, lt-ltb, ltb-false, ltb-true, ne_eqb}
use Rattle.std.proofs.lemmas.List.FromFn.{fill_by_all, get_or-map-range_with_len, length-map-range_with_len, sum_by-map-range_with_len_more, take-map-range_with_len}
use Rattle.std.proofs.lemmas.List.Sums.{count_by-le-length, sum_by-cons}
use Rattle.hv_value.specs.Cells.{cell_at}
use Rattle.hv_value.specs.Rows.{Row}
use Rattle.hv_bucket.specs.declared.buckets.Axis.{Axis}
use Rattle.hv_bucket.specs.declared.buckets.Place.{Place}
use Rattle.hv_bucket.specs.declared.buckets.Place.TheVariants as place
use Rattle.hv_bucket.specs.Axes.{is_bucket, is_missing, is_outside, place_in}
use Rattle.hv_bucket.specs.PlaceLaws.{place-below}
use Rattle.hv_bucket.specs.Places.{are_buckets, buckets_len}
use Rattle.hv_sketch.specs.Tally.{count_in}
use Rattle.hv_sketch.specs.TallyLaws.{tally-at}
use Rattle.hv_hist.specs.declared.shown.CdfShown.{CdfShown}
use Rattle.hv_hist.specs.declared.shown.HistogramShown.{HistogramShown}
use Rattle.hv_hist.specs.Histogram.{bucket_counts, cdf_of, histogram_of}
use Rattle.hv_hist.specs.Slots.{IsCounted, slot_in, slot_of, slots_of}
use Rattle.hv_hist.specs.Sums.{running_sums}

-- two tests that agree count alike
count_same : (p q : Row → Bool) → ((row : Row) → p row ≡ q row) → (rows : List Row) → count_by p rows ≡ count_by q rows
count_same p q h [] = refl
count_same p q h (row ∷ rows) =
    sum_by-cons (λ x. cond (p x) 1 0) row rows
    ∙ ap (λ b. cond b 1 0 + count_by p rows) (h row)
    ∙ ap (λ n. cond (q row) 1 0 + n) (count_same p q h rows)
    ∙ sym (sum_by-cons (λ x. cond (q x) 1 0) row rows)

-- the slot of a place tells what it is
slot-bucket : (n s : ℕ) (p : Place) → s < n → (slot_of n p == s) ≡ is_bucket s p
slot-bucket n s (place.In bucket) within = refl
slot-bucket n s place.Outside within = ne_eqb n s (λ same. omega (arith, same, within))
slot-bucket n s place.Missing within = ne_eqb (n + 1) s (λ same. omega (arith, same, within))

slot-outside : (n : ℕ) (p : Place) → ((bucket : ℕ) → p ≡ place.In bucket → bucket < n) → (slot_of n p == n) ≡ is_outside p
slot-outside n (place.In bucket) below = let within = below bucket refl in ne_eqb bucket n (λ same. omega (arith, same, within))
slot-outside n place.Outside below = eq-eqb n n refl
slot-outside n place.Missing below = ne_eqb (n + 1) n (λ same. omega (arith, same))

slot-missing : (n : ℕ) (p : Place) → ((bucket : ℕ) → p ≡ place.In bucket → bucket < n) → (slot_of n p == n + 1) ≡ is_missing p
slot-missing n (place.In bucket) below = let within = below bucket refl in ne_eqb bucket (n + 1) (λ same. omega (arith, same, within))
slot-missing n place.Outside below = ne_eqb n (n + 1) (λ same. omega (arith, same))
slot-missing n place.Missing below = eq-eqb (n + 1) (n + 1) refl

module _ (axis : Axis) (rows : List Row) (counts : List ℕ) (h : IsCounted axis rows counts) where
  -- the count of a slot
  slot-count : (s : ℕ) → s < slots_of axis → get_or counts s 0 ≡ count_in (slot_in axis) rows s
  slot-count s within = ap (λ l. get_or l s 0) h.is ∙ tally-at (slots_of axis) (slot_in axis) rows s within

  -- the first slots by their rows
  firsts : take (buckets_len axis.buckets) counts ≡ map (count_in (slot_in axis) rows) (range_with_len 0 (buckets_len axis.buckets))
  firsts =
      ap (take (buckets_len axis.buckets)) h.is
      ∙ take-map-range_with_len (count_in (slot_in axis) rows) 0 (slots_of axis) (buckets_len axis.buckets) (omega arith)

  -- are the buckets'
  pub first-counts : take (buckets_len axis.buckets) counts ≡ bucket_counts axis rows
  first-counts =
      firsts
      ∙ fill_by_all (λ b. count_by (λ row. is_bucket b (place_in axis row)) rows) _ (buckets_len axis.buckets) 0
      (length-map-range_with_len (count_in (slot_in axis) rows) 0 (buckets_len axis.buckets))
      (λ s within. get_or-map-range_with_len (count_in (slot_in axis) rows) 0 (buckets_len axis.buckets) s s 0 within (omega arith)
      ∙ count_same _ _ (λ row. slot-bucket (buckets_len axis.buckets) s (place_in axis row) within) rows)

  -- and the last two those of the rows in no bucket
  pub outside-count : are_buckets axis.buckets ≡ true
      → get_or counts (buckets_len axis.buckets) 0 ≡ count_by (λ row. is_outside (place_in axis row)) rows
  outside-count sound =
      slot-count (buckets_len axis.buckets) (omega arith)
      ∙ count_same _ _ (λ row. slot-outside (buckets_len axis.buckets) (place_in axis row)
      (λ bucket is. place-below axis.buckets (cell_at row.cells axis.col) bucket sound is)) rows

  pub missing-count : are_buckets axis.buckets ≡ true
      → get_or counts (buckets_len axis.buckets + 1) 0 ≡ count_by (λ row. is_missing (place_in axis row)) rows
  missing-count sound =
      slot-count (buckets_len axis.buckets + 1) (omega arith)
      ∙ count_same _ _ (λ row. slot-missing (buckets_len axis.buckets) (place_in axis row)
      (λ bucket is. place-below axis.buckets (cell_at row.cells axis.col) bucket sound is)) rows

-- what a row adds to a count
abbrev weight : Bool → ℕ
weight b = cond b 1 0

weightless : (b : Bool) → b ≡ false → weight b ≡ 0
weightless true e = cc e
weightless false e = refl

-- one more slot takes the rows of that slot
one_more : (k n : ℕ) → cond (ltb k n) 1 0 + cond (eqb k n) 1 0 ≡ cond (ltb k (n + 1)) 1 0
one_more k n = by (ltb k n) (eqb k n) refl refl
  where
    by : (b c : Bool) → ltb k n ≡ b → eqb k n ≡ c → cond b 1 0 + cond c 1 0 ≡ cond (ltb k (n + 1)) 1 0
    by true true below same = absurd (omega (arith, ltb-true k n below, eqb-true k n same))
    by true false below same = rw (lt-ltb k (n + 1) (omega (arith, ltb-true k n below))) refl
    by false true below same = rw (lt-ltb k (n + 1) (omega (arith, eqb-true k n same))) refl
    by false false below same =
        let above : n + 1 ≤ k = omega (arith, ltb-false k n below, eqb-false k n same) in
        rw (le-ltb k (n + 1) above) refl

module _ (slot : Row → ℕ) where
  none : (rows : List Row) → 0 ≡ count_by (λ row. ltb (slot row) 0) rows
  none [] = refl
  none (row ∷ rows) =
      let low = weightless (ltb (slot row) 0) (le-ltb (slot row) 0 (omega arith)) in
      omega (arith, none rows, low, sum_by-cons (λ x. cond (ltb (slot x) 0) 1 0) row rows)

  split : (n : ℕ) (rows : List Row) → count_by (λ row. ltb (slot row) n) rows + count_in slot rows n ≡ count_by (λ row. ltb (slot row) (n + 1)) rows
  split n [] = refl
  split n (row ∷ rows) =
      omega (
        arith,
        one_more (slot row) n,
        split n rows,
        sum_by-cons (λ x. cond (ltb (slot x) n) 1 0) row rows,
        sum_by-cons (λ x. cond (eqb (slot x) n) 1 0) row rows,
        sum_by-cons (λ x. cond (ltb (slot x) (n + 1)) 1 0) row rows,
      )

  -- the first counts are together those of the rows in the first slots
  sum-of : (rows : List Row) (n : ℕ) → sum (map (count_in slot rows) (range_with_len 0 n)) ≡ count_by (λ row. ltb (slot row) n) rows
  sum-of rows zero = none rows
  sum-of rows (suc n) =
      subst (λ m. sum (map (count_in slot rows) (range_with_len 0 m)) ≡ count_by (λ row. ltb (slot row) m) rows) (add-one n)
      (sum_by-map-range_with_len_more (λ x. x) (count_in slot rows) 0 n n (omega arith)
      ∙ ap (λ m. m + count_in slot rows n) (sum-of rows n) ∙ split n rows)

-- so the sum of the buckets' counts fits
pub sum-fits : (axis : Axis) (rows : List Row) (counts : List ℕ) → IsCounted axis rows counts → sum (bucket_counts axis rows) < 2 ^ 64
sum-fits axis rows counts h =
    let n = buckets_len axis.buckets in
    let same = sym (first-counts axis rows counts h) ∙ firsts axis rows counts h in
    omega (arith, h.few, ap sum same, sum-of (slot_in axis) rows n, count_by-le-length (λ row. ltb (slot_in axis row) n) rows)

abbrev histogram_parts : List ℕ → ℕ → ℕ → HistogramShown
histogram_parts first missing outside = record { counts = first; missing = missing; outside = outside }

abbrev cdf_parts : HistogramShown → List ℕ → CdfShown
cdf_parts histogram sums = record { missing = histogram.missing; outside = histogram.outside; sums = sums }

-- the parts of a histogram are those of its value
pub histogram-is : (axis : Axis) (rows : List Row) (counts first : List ℕ) (missing outside : ℕ) → IsCounted axis rows counts
    → are_buckets axis.buckets ≡ true → first ≡ take (buckets_len axis.buckets) counts → missing ≡ get_or counts (buckets_len axis.buckets + 1) 0
    → outside ≡ get_or counts (buckets_len axis.buckets) 0
    → histogram_parts first missing outside ≡ histogram_of axis rows
histogram-is axis rows counts first missing outside h sound is_first is_missing is_outside =
    rw (is_first ∙ first-counts axis rows counts h, is_missing ∙ missing-count axis rows counts h sound, is_outside ∙ outside-count axis rows counts h sound) refl

-- and the parts of a cumulative distribution
pub cdf-is : (axis : Axis) (rows : List Row) (counts : List ℕ) (histogram : HistogramShown) (sums : List ℕ) → IsCounted axis rows counts
    → histogram ≡ histogram_of axis rows → (sum histogram.counts < 2 ^ 64 → sums ≡ running_sums histogram.counts)
    → cdf_parts histogram sums ≡ cdf_of axis rows
cdf-is axis rows counts histogram sums h is told =
    let fits : sum histogram.counts < 2 ^ 64 = subst (λ x. sum x < 2 ^ 64) (sym (ap (λ x. x.counts) is)) (sum-fits axis rows counts h) in
    rw (told fits, is) refl
