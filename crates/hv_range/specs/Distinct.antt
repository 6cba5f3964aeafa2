-- The distinct values of a column over a list of rows: this project's own rule.
use Rattle.std.specs.Prelude.{ℕ, List, length, take, nat_lt}
use Rattle.hv_value.specs.declared.cell.Cell.{Cell}
use Rattle.hv_value.specs.Order.{compare_cells}
use Rattle.hv_value.specs.Rows.{Row}
use Rattle.hv_sketch.specs.ColumnCells.{cells_in}
use Rattle.hv_sketch.specs.Rising.{rising}
use Rattle.hv_range.specs.Cells.{values_of}
use Rattle.hv_range.specs.declared.distinct_summary.DistinctSummary.{DistinctSummary}

-- of two equal cells, the one that was there
abbrev pub kept : Cell → Cell → Cell
kept new old = old

-- the different cells that aren't missing, strictly rising
abbrev pub distinct_values : List Cell → List Cell
distinct_values cells = rising compare_cells kept (values_of cells)

-- the first k of a rising list, and whether it has more
abbrev pub first_of : ℕ → List Cell → DistinctSummary
first_of k values = record { values = take k values; more = nat_lt k (length values) }

-- the k least different values of cells, rising, and whether there are more
abbrev pub distinct_of_cells : ℕ → List Cell → DistinctSummary
distinct_of_cells k cells = first_of k (distinct_values cells)

-- those of a column
abbrev pub distinct_of : ℕ → ℕ → List Row → DistinctSummary
distinct_of col k rows = distinct_of_cells k (cells_in col rows)
