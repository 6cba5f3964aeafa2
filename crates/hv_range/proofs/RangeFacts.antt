-- The range of no rows, of one row and of joined lists, and that its counts and its sum fit.
use Rattle.std.proofs.Common.{refl, ◌≡◌, ◌≤◌, ◌<◌, ◌+◌, ◌*◌, ◌^◌, ◌∷◌, ◌++◌, [], ℕ, List, true, false, sym, subst, length, arith, ◌∙◌}
use Rattle.std.specs.Prelude.{IsPermutation, ℤ, pos, neg_ℤ, ◌+ℤ◌, ◌≤ℤ◌, fold, map, not, FitsSigned}
use Rattle.std.specs.Int.{w64}
use Rattle.std.specs.List.{AllByRecursion}
use Rattle.std.proofs.lemmas.Int.{ints}
use Rattle.std.proofs.lemmas.List.{length-append}
use Rattle.std.proofs.lemmas.List.Sums.{count_by-le-length}
use Rattle.std.specs.Ordering.{flip_args}
use Rattle.hv_value.specs.Order.{compare_cells}
use Rattle.std.specs.declared.cmp.Ordering.{Ordering}
use Rattle.hv_sketch.proofs.AnyOrder.{in_any_order}
use Rattle.hv_sketch.proofs.ColumnFacts.{cells-append, length-cells}
use Rattle.hv_sketch.specs.ColumnCells.{cells_in, is_missing}
use Rattle.hv_sketch.proofs.Swaps.{all-join, sum-swap}
use Rattle.hv_value.specs.declared.cell.Cell.{Cell}
use Rattle.hv_value.specs.declared.cell.Cell.TheVariants as cell
use Rattle.hv_value.specs.declared.cell.Kind.{Kind}
use Rattle.hv_value.specs.declared.cell.Kind.TheVariants as kind
use Rattle.hv_value.specs.Cells.{is_of_kind}
use Rattle.hv_value.specs.Rows.{Row}
use Rattle.hv_range.specs.CellLaws.{earlier-keeps, greater-missing, greater-turn, lesser-missing, lesser-turn}
use Rattle.hv_range.specs.Cells.{is_text, number_of}
use Rattle.hv_range.specs.Extremes.{earlier, missing_last}
use Rattle.hv_range.specs.IsRange.{IsCellRange, IsRange, TakesNoMemory}
use Rattle.hv_range.specs.Range.{range_of}
use Rattle.hv_range.specs.RangeLaws.{cells_range-append, range-append, range-same, range_sum-regroup, range_sum-turn, sum-append}
use Rattle.hv_range.specs.RangeSums.{CanAdd, IsRangeCell, cell_range, empty_range, range_sum}
use Rattle.hv_range.specs.declared.summary.RangeSummary.{RangeSummary}

-- the sum of numbers of 64 bits, by how many cells there are
pub sum_bound : (k : Kind) (cs : List Cell) → AllByRecursion (IsRangeCell k) cs
    → (neg_ℤ (pos (length cs * 2 ^ 63)) ≤ℤ fold ◌+ℤ◌ (pos 0) (map number_of cs)) × (fold ◌+ℤ◌ (pos 0) (map number_of cs) ≤ℤ pos (length cs * 2 ^ 63))
sum_bound k [] h = (omega (arith, ints), omega (arith, ints))
sum_bound k (c ∷ cs) h =
    let more = sum_bound k cs h.1 in
    let rest : List ℤ = map number_of cs in
    let step : fold ◌+ℤ◌ (pos 0) (number_of c ∷ rest) ≡ (pos 0 +ℤ number_of c) +ℤ fold ◌+ℤ◌ (pos 0) rest = sum-append (number_of c ∷ []) rest in
    let fits : FitsSigned w64 (number_of c) = h.0.small in
    (rw step (omega (arith, ints, more.0, fits)), rw step (omega (arith, ints, more.1, fits)))

-- the ranges of two lists of at most 2^42 cells together can be added
pub can_add : (k : Kind) (cs ds : List Cell) (s t : RangeSummary) → IsCellRange k cs s → IsCellRange k ds t
    → length cs + length ds ≤ 2 ^ 42 → CanAdd s t
can_add k cs ds s t first second few =
    rw (first.is, second.is) record {
      count = omega (arith, few, count_by-le-length (λ c. not (is_missing c)) cs, count_by-le-length (λ c. not (is_missing c)) ds);
      missing = omega (arith, few, count_by-le-length is_missing cs, count_by-le-length is_missing ds);
      sum =
          let low = sum_bound k cs first.fit in
          let high = sum_bound k ds second.fit in
          omega (arith, ints, few, low.0, low.1, high.0, high.1);
    }

-- their sum is the range of the joined lists
pub IsCellRange-append : (k : Kind) (cs ds : List Cell) (s t : RangeSummary) → IsCellRange k cs s → IsCellRange k ds t
    → length cs + length ds ≤ 2 ^ 42 → IsCellRange k (cs ++ ds) (range_sum s t)
IsCellRange-append k cs ds s t first second few =
    record {
      few = simp length-append few;
      fit = all-join (IsRangeCell k) cs ds first.fit second.fit;
      is = rw (first.is, second.is) (sym (cells_range-append cs ds));
    }

-- the same of two lists of rows
few-both : (col : ℕ) (a b : List Row) → length a + length b ≤ 2 ^ 42 → length (cells_in col a) + length (cells_in col b) ≤ 2 ^ 42
few-both col a b few = omega (arith, few, length-cells col a, length-cells col b)

pub can_add_rows : (k : Kind) (col : ℕ) (a b : List Row) (s t : RangeSummary) → IsRange k col a s → IsRange k col b t
    → length a + length b ≤ 2 ^ 42 → CanAdd s t
can_add_rows k col a b s t first second few = can_add k (cells_in col a) (cells_in col b) s t first second (few-both col a b few)

pub IsRange-append : (k : Kind) (col : ℕ) (a b : List Row) (s t : RangeSummary) → IsRange k col a s → IsRange k col b t
    → length a + length b ≤ 2 ^ 42 → IsRange k col (a ++ b) (range_sum s t)
IsRange-append k col a b s t first second few =
    subst (λ cells. IsCellRange k cells (range_sum s t)) (sym (cells-append col a b))
    (IsCellRange-append k (cells_in col a) (cells_in col b) s t first second (few-both col a b few))

-- the range of no cells
pub IsCellRange-none : (k : Kind) (s : RangeSummary) → s ≡ empty_range → IsCellRange k [] s
IsCellRange-none k s is = record { few = omega arith; fit = tt; is = is }

-- the range of one cell
pub IsCellRange-one : (k : Kind) (c : Cell) → IsRangeCell k c → IsCellRange k (c ∷ []) (cell_range c)
IsCellRange-one k c fits =
    let sum : number_of c ≡ pos 0 +ℤ number_of c = omega (arith, ints) in
    record {
      few = omega arith;
      fit = (fits, tt);
      is =
          range-same _ _ _ _ _ _ _ _ _ _ (omega arith) (omega arith) (sym (lesser-turn cell.Missing c ∙ lesser-missing c))
          (sym (greater-turn cell.Missing c ∙ greater-missing c)) sum;
    }

-- a cell of the kind may be added to fewer than 2^42
pub can_add_cell : (k : Kind) (cs : List Cell) (c : Cell) (s : RangeSummary) → IsCellRange k cs s → length cs < 2 ^ 42
    → IsRangeCell k c → CanAdd s (cell_range c)
can_add_cell k cs c s so_far few fits = can_add k cs (c ∷ []) s (cell_range c) so_far (IsCellRange-one k c fits) (omega (arith, few))

-- and the sum is the range with it
pub IsCellRange-more : (k : Kind) (cs : List Cell) (c : Cell) (s : RangeSummary) → IsCellRange k cs s → length cs < 2 ^ 42
    → IsRangeCell k c → IsCellRange k (cs ++ c ∷ []) (range_sum s (cell_range c))
IsCellRange-more k cs c s so_far few fits = IsCellRange-append k cs (c ∷ []) s (cell_range c) so_far (IsCellRange-one k c fits) (omega (arith, few))

-- the range doesn't depend on the order of the rows
pub range_of-any_order : (col : ℕ) (xs ys : List Row) → IsPermutation xs ys → range_of col xs ≡ range_of col ys
range_of-any_order col xs ys order =
    in_any_order (λ rows. range_of col xs ≡ range_of col rows)
    (λ a b c is. is ∙ sum-swap (range_of col) range_sum range_sum-regroup range_sum-turn (range-append col) a b c) xs ys order refl

-- where each cell is missing or of a kind, so is the earliest
pub fold-kind : (cmp : Cell → Cell → Ordering) (k : Kind) (c : Cell) (cs : List Cell) → is_of_kind k c ≡ true → AllByRecursion (IsRangeCell k) cs
    → is_of_kind k (fold (earlier cmp) c cs) ≡ true
fold-kind cmp k c [] first all = first
fold-kind cmp k c (d ∷ cs) first all =
    fold-kind cmp k (earlier cmp c d) cs (earlier-keeps cmp (λ x. is_of_kind k x ≡ true) c d first all.0.kind_is) all.1

-- cells of a kind that takes no memory are no texts
not_text : (k : Kind) (c : Cell) → TakesNoMemory k → is_of_kind k c ≡ true → is_text c ≡ false
not_text kind.Int cell.Missing free is = refl
not_text kind.Int (cell.Int n) free is = refl
not_text kind.Int (cell.Date day) free is = refl
not_text kind.Int (cell.Text text) free is = sym is
not_text kind.Date cell.Missing free is = refl
not_text kind.Date (cell.Int n) free is = refl
not_text kind.Date (cell.Date day) free is = refl
not_text kind.Date (cell.Text text) free is = sym is
not_text kind.Text c free is = absurd free

-- of a range that takes no memory neither the least nor the greatest is a text
pub record HasNoTexts (s : RangeSummary) : Type 0 where
  pub least : is_text s.least ≡ false
  pub greatest : is_text s.greatest ≡ false

pub no_texts : (k : Kind) (cells : List Cell) (s : RangeSummary) → TakesNoMemory k → IsCellRange k cells s → HasNoTexts s
no_texts k cells s free stands =
    rw stands.is record {
      least = not_text k _ free (fold-kind missing_last k cell.Missing cells refl stands.fit);
      greatest = not_text k _ free (fold-kind (flip_args compare_cells) k cell.Missing cells refl stands.fit);
    }
