-- The ends of a column's range: both are missing, or both are of its kind and the least isn't above the greatest.
use Rattle.std.proofs.Common.{◌≡◌, ◌∙◌, ◌↔◌, ◌+◌, ◌==◌, T, IsSome, refl, sym, ap, subst, ℕ, zero, suc, ℤ, pos, ◌<ℤ◌, ◌≤ℤ◌, List, [], ◌∷◌, Bool, true, false, Option, Some, None, fold, if◌then◌else◌, arith}
use Rattle.std.proofs.Math.Dec.{eqb-suc-zero}
use Rattle.std.proofs.lemmas.Bool.{false≢true, true≢false}
use Rattle.std.proofs.lemmas.Int.{ints}
use Rattle.std.specs.Cmp.{int_ranks}
use Rattle.std.specs.Prelude.{int_le}
use Rattle.std.specs.List.{AllByRecursion}
use Rattle.std.specs.Ordering.{int_cmp, is_lt, MatchOrdering}
use Rattle.std.specs.declared.cmp.Ordering.{Ordering}
use Rattle.std.specs.declared.cmp.Ordering.TheVariants.{Less, Equal, Greater}
use Rattle.hv_value.specs.declared.cell.Cell.{Cell}
use Rattle.hv_value.specs.declared.cell.Cell.TheVariants as cell
use Rattle.hv_value.specs.declared.cell.Kind.{Kind}
use Rattle.hv_value.specs.declared.cell.Kind.TheVariants as kind
use Rattle.hv_value.specs.Cells.{cell_at, is_of_kind}
use Rattle.hv_value.specs.Rows.{Row}
use Rattle.hv_value.specs.Schema.{Columns}
use Rattle.hv_value.specs.Table.{have_kinds}
use Rattle.hv_value.proofs.TableFacts.{kind_of_cell}
use Rattle.hv_range.specs.CellLaws.{greater-missing, lesser-missing}
use Rattle.hv_range.specs.Extremes.{greater, lesser}
use Rattle.hv_range.specs.NumberRange.{end_cell, end_with}
use Rattle.hv_range.specs.declared.summary.RangeSummary.{RangeSummary}
use Rattle.hv_range.proofs.NumberFacts.{kept-day, kept-int}
use Rattle.hv_sketch.specs.ColumnCells.{cells_in, is_missing}
use Rattle.hv_sketch.specs.Columns.{IsColumnOf}
use Rattle.hv_range.specs.Range.{range_of}
use Rattle.hv_view.specs.Auto.{auto_axis, do_rise}
use Rattle.hv_view.specs.Plans.{AreRowsUnder, auto_next, has_numbers, value_next}
use Rattle.hv_view.specs.declared.plan.Second.{Second}

-- the ends by their numbers, the lower one not above the higher one where there are numbers
pub record AreEnds (k : Kind) (least greatest : Cell) : Type 0 where
  pub count : ℕ
  pub low : ℤ
  pub high : ℤ
  pub least_is : least ≡ end_cell k count low
  pub greatest_is : greatest ≡ end_cell k count high
  pub rise : (count == 0) ≡ false → low ≤ℤ high

-- an end with one number more
with_lower : (low high n : ℤ) → low ≤ℤ high → (if is_lt (int_cmp n low) then n else low) ≤ℤ (if is_lt (int_cmp high n) then n else high)
with_lower low high n rise = by (int_cmp n low) (int_ranks n low) (int_cmp high n) (int_ranks high n)
  where
    by : (r : Ordering) → MatchOrdering r (n <ℤ low) (n ≡ low) (low <ℤ n) → (s : Ordering) → MatchOrdering s (high <ℤ n) (high ≡ n) (n <ℤ high)
        → (if is_lt r then n else low) ≤ℤ (if is_lt s then n else high)
    by Less p Less q = omega (arith, ints, p, q, rise)
    by Less p Equal q = omega (arith, ints, p, q, rise)
    by Less p Greater q = omega (arith, ints, p, q, rise)
    by Equal p Less q = omega (arith, ints, p, q, rise)
    by Equal p Equal q = omega (arith, ints, p, q, rise)
    by Equal p Greater q = omega (arith, ints, p, q, rise)
    by Greater p Less q = omega (arith, ints, p, q, rise)
    by Greater p Equal q = omega (arith, ints, p, q, rise)
    by Greater p Greater q = omega (arith, ints, p, q, rise)

rise-more : (count : ℕ) (low high n : ℤ) → ((count == 0) ≡ false → low ≤ℤ high)
    → end_with count n (if is_lt (int_cmp n low) then n else low) ≤ℤ end_with count n (if is_lt (int_cmp high n) then n else high)
rise-more zero low high n rise = omega (arith, ints)
rise-more (suc count) low high n rise = rw (eqb-suc-zero count) (with_lower low high n (rise (eqb-suc-zero count)))

-- one cell more
ends-more : (k : Kind) (least greatest c : Cell) → has_numbers (Some k) ≡ true → is_of_kind k c ≡ true → AreEnds k least greatest
    → AreEnds k (lesser least c) (greater greatest c)
ends-more k least greatest cell.Missing numbers is h =
    record {
      count = h.count;
      low = h.low;
      high = h.high;
      least_is = lesser-missing least ∙ h.least_is;
      greatest_is = greater-missing greatest ∙ h.greatest_is;
      rise = h.rise;
    }
ends-more kind.Int least greatest (cell.Int n) numbers is h =
    let more = kept-int kind.Int n (record { count = h.count; missing = 0; low = h.low; high = h.high; sum = pos 0 }) tt is in
    record {
      count = h.count + 1;
      low = end_with h.count n (if is_lt (int_cmp n h.low) then n else h.low);
      high = end_with h.count n (if is_lt (int_cmp h.high n) then n else h.high);
      least_is = ap (λ e. lesser e (cell.Int n)) h.least_is ∙ sym (ap (λ (s : RangeSummary). s.least) more);
      greatest_is = ap (λ e. greater e (cell.Int n)) h.greatest_is ∙ sym (ap (λ (s : RangeSummary). s.greatest) more);
      rise = λ some. rise-more h.count h.low h.high n h.rise;
    }
ends-more kind.Date least greatest (cell.Date n) numbers is h =
    let more = kept-day kind.Date n (record { count = h.count; missing = 0; low = h.low; high = h.high; sum = pos 0 }) tt is in
    record {
      count = h.count + 1;
      low = end_with h.count n (if is_lt (int_cmp n h.low) then n else h.low);
      high = end_with h.count n (if is_lt (int_cmp h.high n) then n else h.high);
      least_is = ap (λ e. lesser e (cell.Date n)) h.least_is ∙ sym (ap (λ (s : RangeSummary). s.least) more);
      greatest_is = ap (λ e. greater e (cell.Date n)) h.greatest_is ∙ sym (ap (λ (s : RangeSummary). s.greatest) more);
      rise = λ some. rise-more h.count h.low h.high n h.rise;
    }
ends-more kind.Int least greatest (cell.Date n) numbers is h = absurd (false≢true is)
ends-more kind.Int least greatest (cell.Text t) numbers is h = absurd (false≢true is)
ends-more kind.Date least greatest (cell.Int n) numbers is h = absurd (false≢true is)
ends-more kind.Date least greatest (cell.Text t) numbers is h = absurd (false≢true is)
ends-more kind.Text least greatest (cell.Int n) numbers is h = absurd (false≢true numbers)
ends-more kind.Text least greatest (cell.Date n) numbers is h = absurd (false≢true numbers)
ends-more kind.Text least greatest (cell.Text t) numbers is h = absurd (false≢true numbers)

ends-all : (k : Kind) (least greatest : Cell) (cells : List Cell) → has_numbers (Some k) ≡ true → AllByRecursion (λ c. is_of_kind k c ≡ true) cells
    → AreEnds k least greatest → AreEnds k (fold lesser least cells) (fold greater greatest cells)
ends-all k least greatest [] numbers all h = h
ends-all k least greatest (c ∷ cells) numbers all h =
    ends-all k (lesser least c) (greater greatest c) cells numbers all.1 (ends-more k least greatest c numbers all.0 h)

no-ends : (k : Kind) → AreEnds k cell.Missing cell.Missing
no-ends k =
    record {
      count = 0;
      low = pos 0;
      high = pos 0;
      least_is = refl;
      greatest_is = refl;
      rise = λ some. omega (arith, ints);
    }

-- the cells of a column are of its kind
pub column-cells : (columns : Columns) (col : ℕ) (k : Kind) (rows : List Row) → IsColumnOf columns col k → AreRowsUnder columns rows
    → AllByRecursion (λ c. is_of_kind k c ≡ true) (cells_in col rows)
column-cells columns col k [] there under = tt
column-cells columns col k (row ∷ rows) there under =
    (kind_of_cell columns row.cells col k under.0 there, column-cells columns col k rows there under.1)

pub column-ends : (columns : Columns) (col : ℕ) (k : Kind) (rows : List Row) → IsColumnOf columns col k → has_numbers (Some k) ≡ true
    → AreRowsUnder columns rows → AreEnds k (range_of col rows).least (range_of col rows).greatest
column-ends columns col k rows there numbers under =
    ends-all k cell.Missing cell.Missing (cells_in col rows) numbers (column-cells columns col k rows there under) (no-ends k)

-- a fact as its test
tested : (b : Bool) → T b → b ≡ true
tested true t = refl
tested false t = absurd t

-- what is said of two ends, by whether there are numbers
module _ (k : Kind) (col n missing : ℕ) where
  -- the ends rise
  rising-ends : (count : ℕ) (low high : ℤ) → ((count == 0) ≡ false → low ≤ℤ high) → (kk : Kind) → do_rise (end_cell kk count low) (end_cell kk count high) ≡ true
  rising-ends zero low high rise kk = refl
  rising-ends (suc count) low high rise kind.Int = rw (eqb-suc-zero count) (tested (int_le low high) (rise (eqb-suc-zero count)).le)
  rising-ends (suc count) low high rise kind.Date = rw (eqb-suc-zero count) (tested (int_le low high) (rise (eqb-suc-zero count)).le)
  rising-ends (suc count) low high rise kind.Text = rw (eqb-suc-zero count) refl

  pub do-rise : (least greatest : Cell) → AreEnds k least greatest → do_rise least greatest ≡ true
  do-rise least greatest h = rw (h.least_is, h.greatest_is) (rising-ends h.count h.low h.high h.rise k)

  abbrev follows : Cell → Cell → Second
  follows least greatest = auto_next (auto_axis col n least greatest) least greatest missing

  -- the value follows at once exactly where they are missing
  at-once-ends : (kk : Kind) (count : ℕ) (low high : ℤ) → has_numbers (Some kk) ≡ true
      → IsSome (value_next (follows (end_cell kk count low) (end_cell kk count high))) ↔ (is_missing (end_cell kk count low) ≡ true)
  at-once-ends kk zero low high numbers = (λ some. refl, λ none. refl)
  at-once-ends kind.Int (suc count) low high numbers = rw (eqb-suc-zero count) (λ some. absurd (false≢true some), λ none. absurd (false≢true none))
  at-once-ends kind.Date (suc count) low high numbers = rw (eqb-suc-zero count) (λ some. absurd (false≢true some), λ none. absurd (false≢true none))
  at-once-ends kind.Text (suc count) low high numbers = absurd (false≢true numbers)

  pub at-once : (least greatest : Cell) → has_numbers (Some k) ≡ true → AreEnds k least greatest
      → IsSome (value_next (follows least greatest)) ↔ (is_missing least ≡ true)
  at-once least greatest numbers h = rw (h.least_is, h.greatest_is) (at-once-ends k h.count h.low h.high numbers)
