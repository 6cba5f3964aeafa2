-- How the ranges of two lists of rows are joined.
use Rattle.std.specs.Prelude.{◌+◌, ◌^◌, ◌<◌, ◌≡◌, pos, ◌+ℤ◌, true, not, if◌then◌else◌, FitsSigned}
use Rattle.std.specs.Int.{w64, w128}
use Rattle.hv_value.specs.declared.cell.Kind.{Kind}
use Rattle.hv_value.specs.declared.cell.Cell.{Cell}
use Rattle.hv_value.specs.declared.cell.Cell.TheVariants as cell
use Rattle.hv_value.specs.Cells.{is_of_kind}
use Rattle.hv_sketch.specs.ColumnCells.{is_missing}
use Rattle.hv_range.specs.Cells.{number_of}
use Rattle.hv_range.specs.Extremes.{greater, lesser}
use Rattle.hv_range.specs.declared.summary.RangeSummary.{RangeSummary}

-- the range of no rows
abbrev pub empty_range : RangeSummary
empty_range = record { count = 0; missing = 0; least = cell.Missing; greatest = cell.Missing; sum = pos 0 }

-- the range of one cell
abbrev pub cell_range : Cell → RangeSummary
cell_range c =
    record {
      count = if not (is_missing c) then 1 else 0;
      missing = if is_missing c then 1 else 0;
      least = c;
      greatest = c;
      sum = number_of c;
    }

-- the range of the rows of both
abbrev pub range_sum : RangeSummary → RangeSummary → RangeSummary
range_sum a b =
    record {
      count = a.count + b.count;
      missing = a.missing + b.missing;
      least = lesser a.least b.least;
      greatest = greater a.greatest b.greatest;
      sum = a.sum +ℤ b.sum;
    }

-- the counts and the sum of the rows of both fit their types
pub record CanAdd (a b : RangeSummary) : Type 0 where
  pub count : a.count + b.count < 2 ^ 64
  pub missing : a.missing + b.missing < 2 ^ 64
  pub sum : FitsSigned w128 (a.sum +ℤ b.sum)

-- a cell is missing or of the kind, and its number is of 64 bits
pub record IsRangeCell (kind : Kind) (c : Cell) : Type 0 where
  pub kind_is : is_of_kind kind c ≡ true
  pub small : FitsSigned w64 (number_of c)
