-- Values counted in maps, one for each kind, seen as pairs of a value and its count.
use Rattle.std.specs.Prelude.{◌≡◌, ◌≤◌, ◌+◌, ◌++◌, ◌^◌, ℕ, List, length, map, count_by, if◌then◌else◌, string_bytes}
use Rattle.std.specs.declared.string.String.{String}
use Rattle.hv_value.specs.declared.cell.Cell.{Cell}
use Rattle.hv_value.specs.declared.cell.Cell.TheVariants as cell
use Rattle.hv_sketch.specs.ColumnCells.{is_missing}
use Rattle.hv_sketch.specs.Rising.{IsRising}
use Rattle.hv_heavy.specs.Heavy.{IsNear, by_value, count_of, estimate, is_same, total, values_of}
use Rattle.hv_heavy.specs.declared.counts.ValueCounts.{ValueCounts}
use Rattle.hv_heavy.specs.declared.misra_gries.Gathering.{Gathering}
use Rattle.hv_heavy.specs.declared.summary.HeavyPair.{HeavyPair}

-- the pairs of a map's entries, where each key is a cell
abbrev pub pairs_of : {K : Type 0} → (K → Cell) → List (K × ℕ) → List HeavyPair
pairs_of cell_of entries = map (λ entry. record { value = cell_of entry.0; estimate = entry.1 }) entries

-- the cell of a text
abbrev pub text_cell : {A : Type 0} → String A → Cell
text_cell text = cell.Text (string_bytes text)

-- the pairs of all counted values
abbrev pub counted : ValueCounts → List HeavyPair
counted counts = pairs_of cell.Int counts.ints.entries ++ pairs_of cell.Date counts.days.entries ++ pairs_of text_cell counts.texts.entries

-- the estimate of a value, and no other, rises by one
pub record CountsOne (value : Cell) (old new : List HeavyPair) : Type 0 where
  pub each : (other : Cell) → estimate new other ≡ estimate old other + (if is_same other value then 1 else 0)
  pub sum : total new ≡ total old + 1

-- what is kept of at most 2^42 cells: heavy hitters of some, which the counts of the others complete
pub record IsGathered (k : ℕ) (cells : List Cell) (kept : Gathering) : Type 0 where
  pub few : length cells ≤ 2 ^ 42
  pub n : kept.n ≡ length (values_of cells)
  pub missing : kept.missing ≡ count_by is_missing cells
  pub rises : IsRising by_value kept.done
  pub near : IsNear k (length (values_of cells)) (count_of cells) (kept.done ++ counted kept.counts)
