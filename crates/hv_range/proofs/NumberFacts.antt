-- The range that is kept by numbers: one cell more, and that its ends are of the column's kind.
use Rattle.std.proofs.Common.{◌≡◌, ◌+◌, ℕ, zero, suc, Bool, true, false, List, refl, sym, ap, add-one, arith}
use Rattle.std.proofs.Math.Dec.{eqb-suc-zero}
use Rattle.std.specs.Prelude.{ℤ, pos, if◌then◌else◌}
use Rattle.std.proofs.lemmas.Bool.{false≢true}
use Rattle.std.specs.Ordering.{flip_args, int_cmp, is_lt}
use Rattle.std.proofs.lemmas.Int.{ints}
use Rattle.hv_value.specs.CellOrder.{compare-days, compare-ints}
use Rattle.hv_value.specs.Order.{compare_cells}
use Rattle.hv_value.specs.declared.cell.Cell.{Cell}
use Rattle.hv_value.specs.declared.cell.Cell.TheVariants as cell
use Rattle.hv_value.specs.declared.cell.Kind.{Kind}
use Rattle.hv_value.specs.declared.cell.Kind.TheVariants as kind
use Rattle.hv_value.specs.Cells.{is_of_kind}
use Rattle.hv_range.specs.CellLaws.{greater-missing, lesser-missing}
use Rattle.hv_range.specs.Extremes.{greater, lesser, missing_last}
use Rattle.hv_range.specs.IsRange.{IsCellRange, TakesNoMemory}
use Rattle.hv_range.specs.NumberRange.{end_cell, end_with, range_kept, with_number}
use Rattle.hv_range.specs.RangeLaws.{range-same}
use Rattle.hv_range.specs.RangeSums.{cell_range, range_sum}
use Rattle.hv_range.specs.declared.numbers.NumberRange.{NumberRange}
use Rattle.hv_range.proofs.RangeFacts.{fold-kind}

-- the ends with one whole number more
least_int : (count : ℕ) (low n : ℤ)
    → end_cell kind.Int (count + 1) (end_with count n (if is_lt (int_cmp n low) then n else low)) ≡ lesser (end_cell kind.Int count low) (cell.Int n)
least_int zero low n = refl
least_int (suc count) low n = rw (add-one, eqb-suc-zero (suc count), eqb-suc-zero count, compare-ints n low) (by (is_lt (int_cmp n low)))
  where
    by : (b : Bool) → cell.Int (if b then n else low) ≡ (if b then cell.Int n else cell.Int low)
    by true = refl
    by false = refl

greatest_int : (count : ℕ) (high n : ℤ)
    → end_cell kind.Int (count + 1) (end_with count n (if is_lt (int_cmp high n) then n else high)) ≡ greater (end_cell kind.Int count high) (cell.Int n)
unfolding compare_cells
greatest_int zero high n = refl
greatest_int (suc count) high n = rw (add-one, eqb-suc-zero (suc count), eqb-suc-zero count, compare-ints high n) (by (is_lt (int_cmp high n)))
  where
    by : (b : Bool) → cell.Int (if b then n else high) ≡ (if b then cell.Int n else cell.Int high)
    by true = refl
    by false = refl

-- and with one day more
least_day : (count : ℕ) (low n : ℤ)
    → end_cell kind.Date (count + 1) (end_with count n (if is_lt (int_cmp n low) then n else low)) ≡ lesser (end_cell kind.Date count low) (cell.Date n)
least_day zero low n = refl
least_day (suc count) low n = rw (add-one, eqb-suc-zero (suc count), eqb-suc-zero count, compare-days n low) (by (is_lt (int_cmp n low)))
  where
    by : (b : Bool) → cell.Date (if b then n else low) ≡ (if b then cell.Date n else cell.Date low)
    by true = refl
    by false = refl

greatest_day : (count : ℕ) (high n : ℤ)
    → end_cell kind.Date (count + 1) (end_with count n (if is_lt (int_cmp high n) then n else high)) ≡ greater (end_cell kind.Date count high) (cell.Date n)
unfolding compare_cells
greatest_day zero high n = refl
greatest_day (suc count) high n = rw (add-one, eqb-suc-zero (suc count), eqb-suc-zero count, compare-days high n) (by (is_lt (int_cmp high n)))
  where
    by : (b : Bool) → cell.Date (if b then n else high) ≡ (if b then cell.Date n else cell.Date high)
    by true = refl
    by false = refl

-- the range that is kept, with one whole number more
pub kept-int : (k : Kind) (n : ℤ) (kept : NumberRange) → TakesNoMemory k → is_of_kind k (cell.Int n) ≡ true
    → range_kept k (with_number n n kept) ≡ range_sum (range_kept k kept) (cell_range (cell.Int n))
kept-int kind.Int n kept free is =
    range-same _ _ _ _ _ _ _ _ _ _ refl (omega arith) (least_int kept.count kept.low n) (greatest_int kept.count kept.high n) refl
kept-int kind.Date n kept free is = absurd (false≢true is)
kept-int kind.Text n kept free is = absurd free

-- with one day more
pub kept-day : (k : Kind) (n : ℤ) (kept : NumberRange) → TakesNoMemory k → is_of_kind k (cell.Date n) ≡ true
    → range_kept k (with_number n (pos 0) kept) ≡ range_sum (range_kept k kept) (cell_range (cell.Date n))
kept-day kind.Int n kept free is = absurd (false≢true is)
kept-day kind.Date n kept free is =
    range-same _ _ _ _ _ _ _ _ _ _ refl (omega arith) (least_day kept.count kept.low n) (greatest_day kept.count kept.high n) refl
kept-day kind.Text n kept free is = absurd free

-- with one missing cell more
pub kept-missing : (k : Kind) (kept : NumberRange)
    → range_kept k (record kept { missing = kept.missing + 1 }) ≡ range_sum (range_kept k kept) (cell_range cell.Missing)
kept-missing k kept =
    range-same _ _ _ _ _ _ _ _ _ _ (omega arith) refl (sym (lesser-missing (end_cell k kept.count kept.low)))
    (sym (greater-missing (end_cell k kept.count kept.high))) (omega (arith, ints))

-- the ends of a column's range are of its kind
pub ends_kind : (k : Kind) (cells : List Cell) (kept : NumberRange) → IsCellRange k cells (range_kept k kept)
    → (is_of_kind k (end_cell k kept.count kept.low) ≡ true) × (is_of_kind k (end_cell k kept.count kept.high) ≡ true)
ends_kind k cells kept stands = (
  rw (ap (λ s. s.least) stands.is) (fold-kind missing_last k cell.Missing cells refl stands.fit),
  rw (ap (λ s. s.greatest) stands.is) (fold-kind (flip_args compare_cells) k cell.Missing cells refl stands.fit),
)
