-- The range of a column over a list of rows: plain folds over its cells. This project's own rule.
use Rattle.std.specs.Prelude.{ℕ, pos, ◌+ℤ◌, List, map, not, fold, count_by}
use Rattle.hv_value.specs.declared.cell.Cell.{Cell}
use Rattle.hv_value.specs.declared.cell.Cell.TheVariants as cell
use Rattle.hv_value.specs.Rows.{Row}
use Rattle.hv_sketch.specs.ColumnCells.{cells_in, is_missing}
use Rattle.hv_range.specs.Cells.{number_of}
use Rattle.hv_range.specs.Extremes.{greater, lesser}
use Rattle.hv_range.specs.declared.summary.RangeSummary.{RangeSummary}

-- the range of cells: how many aren't missing, how many are, the least and the greatest of the others (missing where
-- there is none), and the exact sum of the whole numbers
abbrev pub range_of_cells : List Cell → RangeSummary
range_of_cells cells =
    record {
      count = count_by (λ c. not (is_missing c)) cells;
      missing = count_by is_missing cells;
      least = fold lesser cell.Missing cells;
      greatest = fold greater cell.Missing cells;
      sum = fold ◌+ℤ◌ (pos 0) (map number_of cells);
    }

-- the range of a column: that of its cells
abbrev pub range_of : ℕ → List Row → RangeSummary
range_of col rows = range_of_cells (cells_in col rows)
