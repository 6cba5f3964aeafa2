-- The histogram of a column between its own ends: this project's own rule.
use Rattle.std.specs.Prelude.{ℕ, ℤ, int_le, List, [], Bool, true, Option, Some, None, count_by}
use Rattle.hv_value.specs.declared.cell.Cell.{Cell}
use Rattle.hv_value.specs.declared.cell.Cell.TheVariants as cell
use Rattle.hv_value.specs.Rows.{Row}
use Rattle.hv_bucket.specs.declared.buckets.Axis.{Axis}
use Rattle.hv_bucket.specs.declared.buckets.Buckets.TheVariants as buckets
use Rattle.hv_hist.specs.declared.shown.HistogramShown.{HistogramShown}
use Rattle.hv_hist.specs.Histogram.{histogram_of}
use Rattle.hv_range.specs.Range.{range_of}
use Rattle.hv_sketch.specs.ColumnCells.{cells_in, is_missing}
use Rattle.hv_view.specs.declared.auto.AutoShown.{AutoShown}

-- whether the first of two cells isn't above the second, where both are whole numbers or both are days
abbrev pub do_rise : Cell → Cell → Bool
do_rise (cell.Int lo) (cell.Int hi) = int_le lo hi
do_rise (cell.Date lo) (cell.Date hi) = int_le lo hi
do_rise x y = true

-- so many buckets of the numbers from one to another, in a column
abbrev pub numbers_axis : ℕ → ℕ → ℤ → ℤ → Axis
numbers_axis col n lo hi = record { col = col; buckets = buckets.Int (record { lo = lo; hi = hi; n = n }) }

-- so many buckets between two cells of a column, both whole numbers or both days
abbrev pub auto_axis : ℕ → ℕ → Cell → Cell → Option Axis
auto_axis col n (cell.Int lo) (cell.Int hi) = Some (numbers_axis col n lo hi)
auto_axis col n (cell.Date lo) (cell.Date hi) = Some (numbers_axis col n lo hi)
auto_axis col n least greatest = None

-- a histogram with the ends of its axis
abbrev pub between : Cell → Cell → HistogramShown → AutoShown
between least greatest histogram = record { counts = histogram.counts; hi = greatest; lo = least; missing = histogram.missing }

-- no buckets, where there are no such ends
abbrev pub without_buckets : Cell → Cell → ℕ → AutoShown
without_buckets least greatest missing = record { counts = []; hi = greatest; lo = least; missing = missing }

abbrev pub auto_over : ℕ → Option Axis → Cell → Cell → List Row → AutoShown
auto_over col None least greatest rows = without_buckets least greatest (count_by is_missing (cells_in col rows))
auto_over col (Some axis) least greatest rows = between least greatest (histogram_of axis rows)

-- so many buckets between the least and the greatest cell that a column has in the whole, missing ones where it has none:
-- how many of the rows are in each bucket, and how many have a missing cell
abbrev pub auto_of : ℕ → ℕ → List Row → List Row → AutoShown
auto_of col n whole rows = auto_over col (auto_axis col n (range_of col whole).least (range_of col whole).greatest) (range_of col whole).least (range_of col whole).greatest rows
