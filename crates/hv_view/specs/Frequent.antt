-- The frequent values of a column: those that are more than one in k + 1 of its cells that aren't missing.
use Rattle.std.specs.Prelude.{◌≡◌, ◌<◌, ◌+◌, ◌*◌, ℕ, Bool, List, [], ◌∷◌, length, map, filter, count_by, nat_lt}
use Rattle.std.specs.List.{AllByRecursion, Contains}
use Rattle.std.specs.declared.cmp.Ordering.{Ordering}
use Rattle.hv_value.specs.declared.cell.Cell.{Cell}
use Rattle.hv_value.specs.Order.{compare_cells}
use Rattle.hv_value.specs.Rows.{Row}
use Rattle.hv_sketch.specs.ColumnCells.{cells_in, is_missing}
use Rattle.hv_sketch.specs.Rising.{IsRising}
use Rattle.hv_heavy.specs.Heavy.{count_of, values_of}
use Rattle.hv_heavy.specs.declared.count_of.CountShown.{CountShown}
use Rattle.hv_heavy.specs.declared.summary.HeavyPair.{HeavyPair}
use Rattle.hv_view.specs.declared.frequent.FrequentPair.{FrequentPair}
use Rattle.hv_view.specs.declared.frequent.FrequentShown.{FrequentShown}

-- pairs compare by their values
abbrev pub by_value : FrequentPair → FrequentPair → Ordering
by_value x y = compare_cells x.value y.value

-- one of the pairs is of the value
abbrev pub HasValue : List FrequentPair → Cell → Type 0
HasValue pairs value = (pair : FrequentPair) × Contains pairs pair × (pair.value ≡ value)

-- the pair has the value's count, which is more than one in k + 1 of n
abbrev pub IsCounted : ℕ → ℕ → List Cell → FrequentPair → Type 0
IsCounted k n cells pair = (pair.count ≡ count_of cells pair.value) × (n < (k + 1) * pair.count)

-- all frequent values of the column and no others, strictly rising, each with its count
pub record IsFrequent (col k : ℕ) (rows : List Row) (value : FrequentShown) : Type 0 where
  pub n : value.n ≡ length (values_of (cells_in col rows))
  pub missing : value.missing ≡ count_by is_missing (cells_in col rows)
  pub rises : IsRising by_value value.pairs
  pub each : AllByRecursion (IsCounted k value.n (cells_in col rows)) value.pairs
  pub all : (v : Cell) → value.n < (k + 1) * count_of (cells_in col rows) v → HasValue value.pairs v

-- ---- how they are made of heavy hitters and the counts of their values

-- the values of pairs
abbrev pub pair_values : List HeavyPair → List Cell
pair_values pairs = map (λ pair. pair.value) pairs

-- values with their counts, in turn, as far as both go
abbrev pub paired : List Cell → List ℕ → List FrequentPair
paired [] counts = []
paired (value ∷ values) [] = []
paired (value ∷ values) (count ∷ counts) = record { value = value; count = count } ∷ paired values counts

-- whether a count is more than one in k + 1 of n
abbrev pub is_frequent : ℕ → ℕ → FrequentPair → Bool
is_frequent k n pair = nat_lt n ((k + 1) * pair.count)

-- the values that were counted, without those that aren't frequent
abbrev pub frequent_among : ℕ → List Cell → CountShown → FrequentShown
frequent_among k values counted = record { missing = counted.missing; n = counted.n; pairs = filter (is_frequent k counted.n) (paired values counted.counts) }
