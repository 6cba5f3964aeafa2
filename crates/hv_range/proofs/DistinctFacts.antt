-- The k least values with one value more, and joined with those of other rows.
use Rattle.std.proofs.Common.{◌≡◌, ◌≤◌, ◌+◌, ◌||◌, ℕ, List, [], ◌∷◌, ◌++◌, Bool, true, false, refl, sym, ap, length, take, arith, ◌∙◌, nat_eq, nat_lt}
use Rattle.std.specs.List.{insert}
use Rattle.std.proofs.lemmas.Bool.Decides.{nat_tests}
use Rattle.std.proofs.lemmas.Bool.{ltb-true, ltb-false, lt-ltb}
use Rattle.std.proofs.lemmas.List.{append-nil, length-take, take-take, take_all}
use Rattle.std.proofs.lemmas.List.Edits.{length-insert}
use Rattle.hv_value.specs.declared.cell.Cell.{Cell}
use Rattle.hv_value.specs.Order.{compare_cells}
use Rattle.hv_value.specs.Rows.{Row}
use Rattle.hv_sketch.specs.Rising.{IsRising, put, put_all, rising}
use Rattle.hv_sketch.proofs.Least.{joined-longer, least-joined, put-longer, rising-join, rising-more, rising-rises, take-put, take-rises}
use Rattle.hv_value.specs.CellOrder.{cells_total}
use Rattle.hv_sketch.specs.ColumnCells.{cells_in, is_missing}
use Rattle.hv_sketch.proofs.ColumnFacts.{cells-append}
use Rattle.hv_range.specs.Cells.{values_of}
use Rattle.hv_range.specs.Distinct.{distinct_of, distinct_of_cells, distinct_values, first_of, kept}
use Rattle.hv_range.specs.DistinctLaws.{kept_joins, values-append}
use Rattle.hv_range.specs.DistinctSums.{distinct_sum, with_inserted}
use Rattle.hv_range.specs.declared.distinct_summary.DistinctSummary.{DistinctSummary}

-- summaries with equal parts are equal
same : (v w : List Cell) (m n : Bool) → v ≡ w → m ≡ n → ◌≡◌ {A = DistinctSummary} (record { values = v; more = m }) (record { values = w; more = n })
same v w m n values more = λ i. record { values = values i; more = more i }

over : (k n : ℕ) → n ≤ k → nat_lt k (n + 1) ≡ nat_eq n k
over k n few = grind (arith, nat_tests)

module _ (k : ℕ) (values : List Cell) where
  -- where there are no more than k, all are among the k least
  all_few : nat_lt k (length values) ≡ false → take k values ≡ values
  all_few e = take_all k values (ltb-false k (length values) e)

  -- where there are more than k, there are more than k in a longer list
  still_more : (longer : List Cell) → nat_lt k (length values) ≡ true → length values ≤ length longer → nat_lt k (length longer) ≡ true
  still_more longer e le = lt-ltb k (length longer) (omega (arith, ltb-true k (length values) e, le))

-- one value past the k least tells whether there are more
pub first_of-cut : (k : ℕ) (values cut : List Cell) (s : DistinctSummary) → cut ≡ take (k + 1) values → s.values ≡ take k cut
    → s.more ≡ nat_lt k (length cut) → s ≡ first_of k values
first_of-cut k values cut s is few more =
    same _ _ _ _ (few ∙ ap (take k) is ∙ take-take k (k + 1) values (omega arith)) (more ∙ ap (λ l. nat_lt k (length l)) is ∙ told)
  where
    told : nat_lt k (length (take (k + 1) values)) ≡ nat_lt k (length values)
    told = let cut = length-take (k + 1) values in grind (arith, nat_tests)

module _ (k : ℕ) (c : Cell) (values : List Cell) where
  -- a value that is among the k least changes nothing
  pub first_of-same : put compare_cells kept c (take k values) ≡ take k values → first_of k (put compare_cells kept c values) ≡ first_of k values
  first_of-same there =
      same _ _ _ _ (take-put compare_cells kept k c values ∙ ap (take k) there ∙ take-take k k values (omega arith))
      (by (nat_lt k (length values)) refl)
    where
      by : (b : Bool) → nat_lt k (length values) ≡ b → nat_lt k (length (put compare_cells kept c values)) ≡ nat_lt k (length values)
      by true e = still_more k values (put compare_cells kept c values) e (put-longer compare_cells kept c values) ∙ sym e
      by false e =
          ap (λ l. nat_lt k (length l)) (ap (put compare_cells kept c) (sym (all_few k values e)) ∙ there ∙ all_few k values e)

  -- a new value goes to its place among them
  pub first_of-new : (place : ℕ) → place ≤ length (take k values) → put compare_cells kept c (take k values) ≡ insert (take k values) place c
      → first_of k (put compare_cells kept c values) ≡ with_inserted k place c (first_of k values)
  first_of-new place within put_in =
      same _ _ _ _ (take-put compare_cells kept k c values ∙ ap (take k) put_in)
      (by (nat_lt k (length values)) refl)
    where
      full : Bool
      full = nat_eq (length (take k values)) k

      by : (b : Bool) → nat_lt k (length values) ≡ b
          → nat_lt k (length (put compare_cells kept c values)) ≡ (nat_lt k (length values) || full)
      by true e =
          still_more k values (put compare_cells kept c values) e (put-longer compare_cells kept c values)
          ∙ sym (ap (λ b. b || full) e)
      by false e =
          let all = all_few k values e in
          let put_here : put compare_cells kept c values ≡ insert (take k values) place c = ap (put compare_cells kept c) (sym all) ∙ put_in in
          ap (λ l. nat_lt k (length l)) put_here ∙ ap (nat_lt k) (length-insert (take k values) place c within)
          ∙ over k (length (take k values)) (omega (arith, length-take k values)) ∙ sym (ap (λ b. b || full) e)

-- the k least of two rising lists joined, by those of each
pub first_of-joined : (k : ℕ) (s t : List Cell) → IsRising compare_cells s → IsRising compare_cells t
    → distinct_sum k (first_of k s) (first_of k t) ≡ first_of k (put_all compare_cells kept s t)
first_of-joined k s t left right =
    same _ _ _ _ (sym (least-joined compare_cells kept cells_total kept_joins k s t left right))
    (by (nat_lt k (length s)) refl (nat_lt k (length t)) refl)
  where
    both : List Cell
    both = put_all compare_cells kept s t

    cut : List Cell
    cut = put_all compare_cells kept (take k s) (take k t)

    longer : (length s ≤ length both) × (length t ≤ length both)
    longer = joined-longer compare_cells kept cells_total kept_joins s t left right

    by : (m : Bool) → nat_lt k (length s) ≡ m → (n : Bool) → nat_lt k (length t) ≡ n
        → (nat_lt k (length s) || nat_lt k (length t) || nat_lt k (length cut)) ≡ nat_lt k (length both)
    by true e n f =
        ap (λ b. b || nat_lt k (length t) || nat_lt k (length cut)) e ∙ sym (still_more k s both e longer.0)
    by false e true f =
        ap (λ b. b || nat_lt k (length t) || nat_lt k (length cut)) e ∙ ap (λ b. b || nat_lt k (length cut)) f
        ∙ sym (still_more k t both f longer.1)
    by false e false f =
        ap (λ b. b || nat_lt k (length t) || nat_lt k (length cut)) e ∙ ap (λ b. b || nat_lt k (length cut)) f
        ∙ ap (λ l. nat_lt k (length (put_all compare_cells kept l (take k t)))) (all_few k s e)
        ∙ ap (λ l. nat_lt k (length (put_all compare_cells kept s l))) (all_few k t f)

-- the distinct values rise
pub values-rise : (cells : List Cell) → IsRising compare_cells (distinct_values cells)
values-rise cells = rising-rises compare_cells kept cells_total kept_joins (values_of cells)

-- and so do the least of them
pub distinct-rises : (k : ℕ) (cells : List Cell) (s : DistinctSummary) → s ≡ distinct_of_cells k cells → IsRising compare_cells s.values
distinct-rises k cells s is = rw is (take-rises compare_cells kept cells_total kept_joins k (distinct_values cells) (values-rise cells))

-- the distinct values of joined lists of cells
distinct-append : (k : ℕ) (a b : List Cell) → distinct_of_cells k (a ++ b) ≡ distinct_sum k (distinct_of_cells k a) (distinct_of_cells k b)
distinct-append k a b =
    ap (first_of k)
    (ap (rising compare_cells kept) (values-append a b) ∙ rising-join compare_cells kept cells_total kept_joins (values_of a) (values_of b))
    ∙ sym (first_of-joined k (distinct_values a) (distinct_values b) (values-rise a) (values-rise b))

-- and of rows
pub distinct_of-append : (col k : ℕ) (a b : List Row) → distinct_of col k (a ++ b) ≡ distinct_sum k (distinct_of col k a) (distinct_of col k b)
distinct_of-append col k a b = ap (distinct_of_cells k) (cells-append col a b) ∙ distinct-append k (cells_in col a) (cells_in col b)

-- of one cell more, which isn't missing
pub distinct-more : (k : ℕ) (cells : List Cell) (c : Cell) → is_missing c ≡ false
    → distinct_of_cells k (cells ++ c ∷ []) ≡ first_of k (put compare_cells kept c (distinct_values cells))
distinct-more k cells c there =
    let one : values_of (c ∷ []) ≡ c ∷ [] = rw there refl in
    ap (λ l. first_of k (rising compare_cells kept l)) (values-append cells (c ∷ []) ∙ ap (λ l. values_of cells ++ l) one)
    ∙ ap (first_of k) (rising-more compare_cells kept cells_total kept_joins (values_of cells) c)

-- and of a missing one more
pub distinct-missing : (k : ℕ) (cells : List Cell) (c : Cell) → is_missing c ≡ true → distinct_of_cells k (cells ++ c ∷ []) ≡ distinct_of_cells k cells
distinct-missing k cells c missing =
    let none : values_of (c ∷ []) ≡ [] = rw missing refl in
    ap (λ l. first_of k (rising compare_cells kept l))
    (values-append cells (c ∷ []) ∙ ap (λ l. values_of cells ++ l) none ∙ append-nil (values_of cells))

-- a summary with one value more, that it has already, and that is new
module _ (k : ℕ) (c : Cell) (values : List Cell) (s : DistinctSummary) (is : s ≡ first_of k values) where
  pub add_same : put compare_cells kept c s.values ≡ s.values → s ≡ first_of k (put compare_cells kept c values)
  add_same there = is ∙ sym (first_of-same k c values (rw is at there))

module _ (k : ℕ) (c : Cell) (values : List Cell) (s : DistinctSummary) (place : ℕ) (is : s ≡ first_of k values) where
  pub add_new : place ≤ length s.values → put compare_cells kept c s.values ≡ insert s.values place c
      → with_inserted k place c s ≡ first_of k (put compare_cells kept c values)
  add_new within put_in = ap (with_inserted k place c) is ∙ sym (first_of-new k c values place (rw is at within) (rw is at put_in))
