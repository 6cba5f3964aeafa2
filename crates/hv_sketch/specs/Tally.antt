-- How many of some rows are in each slot, where each row is put into one: the counts of every chart.
use Rattle.std.specs.Prelude.{◌≡◌, ◌≤◌, ◌+◌, ◌==◌, ◌^◌, ℕ, List, length, map, slice_index}
use Rattle.std.specs.List.{count_by, range_with_len}
use Rattle.hv_value.specs.Rows.{Row}

-- how many of the rows are put into a slot
abbrev pub count_in : (Row → ℕ) → List Row → ℕ → ℕ
count_in slot rows s = count_by (λ row. slot row == s) rows

-- the same for each slot below a number
abbrev pub tally_of : ℕ → (Row → ℕ) → List Row → List ℕ
tally_of slots slot rows = map (count_in slot rows) (range_with_len 0 slots)

-- the sums of two lists of counts, slot by slot
abbrev pub added : List ℕ → List ℕ → List ℕ
added a b = map (λ s. slice_index a s + slice_index b s) (range_with_len 0 (length a))

-- the counts are those of at most 2^42 rows
pub record IsTally (slots : ℕ) (slot : Row → ℕ) (rows : List Row) (counts : List ℕ) : Type 0 where
  pub few : length rows ≤ 2 ^ 42
  pub is : counts ≡ tally_of slots slot rows
