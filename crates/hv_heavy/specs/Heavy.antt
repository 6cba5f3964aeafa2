-- Heavy hitters of the cells of a column: Misra and Gries, "Finding repeated elements"; the bounds of merged ones are those of "Mergeable Summaries" (Agarwal and others), section 3.
use Rattle.std.specs.Prelude.{◌≡◌, ◌≤◌, ◌+◌, ◌-◌, ◌*◌, ◌^◌, ℕ, Bool, List, length, not, filter, count_by, sum_by, if◌then◌else◌}
use Rattle.std.specs.List.{All, Contains}
use Rattle.std.specs.Ordering.{is_eq}
use Rattle.std.specs.declared.cmp.Ordering.{Ordering}
use Rattle.hv_value.specs.declared.cell.Cell.{Cell}
use Rattle.hv_value.specs.Order.{compare_cells}
use Rattle.hv_value.specs.Rows.{Row}
use Rattle.hv_sketch.specs.ColumnCells.{cells_in, is_missing}
use Rattle.hv_sketch.specs.Rising.{IsRising}
use Rattle.hv_heavy.specs.declared.summary.HeavyPair.{HeavyPair}
use Rattle.hv_heavy.specs.declared.summary.HeavySummary.{HeavySummary}

-- whether two cells are equal: those that tie are
abbrev pub is_same : Cell → Cell → Bool
is_same x y = is_eq (compare_cells x y)

-- the cells that aren't missing, in their order
abbrev pub values_of : List Cell → List Cell
values_of cells = filter (λ c. not (is_missing c)) cells

-- how many of the cells are a value; none are a missing one
abbrev pub count_of : List Cell → Cell → ℕ
count_of cells value = count_by (is_same value) (values_of cells)

-- pairs compare by their values
abbrev pub by_value : HeavyPair → HeavyPair → Ordering
by_value x y = compare_cells x.value y.value

-- a pair's estimate where it is of the value, else 0
abbrev pub estimate_at : Cell → HeavyPair → ℕ
estimate_at value pair = if is_same value pair.value then pair.estimate else 0

-- the estimate of a value: that of its pair, 0 where it has none
abbrev pub estimate : List HeavyPair → Cell → ℕ
estimate pairs value = sum_by (estimate_at value) pairs

-- the sum of the estimates
abbrev pub total : List HeavyPair → ℕ
total pairs = sum_by (λ pair. pair.estimate) pairs

-- no estimate is above its value's count, and all that is lost of a count, k + 1 times, is missing from the sum of the estimates
pub record IsNear (k n : ℕ) (count : Cell → ℕ) (pairs : List HeavyPair) : Type 0 where
  pub low : (value : Cell) → estimate pairs value ≤ count value
  pub near : (value : Cell) → (k + 1) * (count value - estimate pairs value) + total pairs ≤ n

-- the pairs are heavy hitters of n values with these counts: at most k, each value once, no estimate 0
pub record AreHeavy (k n : ℕ) (count : Cell → ℕ) (pairs : List HeavyPair) : Type 0 where
  pub rises : IsRising by_value pairs
  pub some : All (λ pair. 1 ≤ pair.estimate) pairs
  pub few : length pairs ≤ k
  pub near : IsNear k n count pairs

-- the same of the values among cells
abbrev pub AreHeavyIn : ℕ → List Cell → List HeavyPair → Type 0
AreHeavyIn k cells pairs = AreHeavy k (length (values_of cells)) (count_of cells) pairs

-- the summary is one of at most 2^42 cells: a relation, since many lists of pairs keep the bounds
pub record IsHeavyOf (k : ℕ) (cells : List Cell) (summary : HeavySummary) : Type 0 where
  pub few : length cells ≤ 2 ^ 42
  pub n : summary.n ≡ length (values_of cells)
  pub missing : summary.missing ≡ count_by is_missing cells
  pub pairs : AreHeavyIn k cells summary.pairs

-- the same of a column's cells
abbrev pub IsHeavy : ℕ → ℕ → List Row → HeavySummary → Type 0
IsHeavy col k rows summary = IsHeavyOf k (cells_in col rows) summary

-- one of the pairs is of the value
abbrev pub HasPair : List HeavyPair → Cell → Type 0
HasPair pairs value = (pair : HeavyPair) × Contains pairs pair × (pair.value ≡ value)
