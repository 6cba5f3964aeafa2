-- What the range's summary stands for.
use Rattle.std.specs.Prelude.{◌≡◌, ◌≤◌, ◌^◌, ℕ, List, length, ⊤}
use Rattle.std.specs.List.{AllByRecursion}
use Rattle.hv_value.specs.declared.cell.Cell.{Cell}
use Rattle.hv_value.specs.declared.cell.Kind.{Kind}
use Rattle.hv_value.specs.declared.cell.Kind.TheVariants as kind
use Rattle.hv_value.specs.Rows.{Row}
use Rattle.hv_sketch.specs.ColumnCells.{cells_in}
use Rattle.hv_range.specs.Range.{range_of_cells}
use Rattle.hv_range.specs.RangeSums.{IsRangeCell}
use Rattle.hv_range.specs.declared.summary.RangeSummary.{RangeSummary}

-- the summary is the range of at most 2^42 cells, which are missing or of the kind, with numbers of 64 bits
pub record IsCellRange (kind : Kind) (cells : List Cell) (summary : RangeSummary) : Type 0 where
  pub few : length cells ≤ 2 ^ 42
  pub fit : AllByRecursion (IsRangeCell kind) cells
  pub is : summary ≡ range_of_cells cells

-- the summary is the range of the column over the rows: that of its cells
abbrev pub IsRange : Kind → ℕ → List Row → RangeSummary → Type 0
IsRange k col rows summary = IsCellRange k (cells_in col rows) summary

-- the ranges of a kind take no memory
abbrev pub TakesNoMemory : Kind → Type 0
TakesNoMemory kind.Int = ⊤
TakesNoMemory kind.Date = ⊤
TakesNoMemory kind.Text = ⊥
