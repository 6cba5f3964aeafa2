-- The range of a column of whole numbers or of days by its ends as numbers: what is kept while rows are gathered.
use Rattle.std.specs.Prelude.{ℕ, ℤ, ◌+◌, ◌+ℤ◌, ◌==◌, if◌then◌else◌}
use Rattle.std.specs.Ordering.{int_cmp, is_lt}
use Rattle.hv_value.specs.declared.cell.Cell.{Cell}
use Rattle.hv_value.specs.declared.cell.Cell.TheVariants as cell
use Rattle.hv_value.specs.declared.cell.Kind.{Kind}
use Rattle.hv_value.specs.declared.cell.Kind.TheVariants as kind
use Rattle.hv_range.specs.declared.numbers.NumberRange.{NumberRange}
use Rattle.hv_range.specs.declared.summary.RangeSummary.{RangeSummary}

-- the cell of a number in a column of the kind
abbrev pub number_cell : Kind → ℤ → Cell
number_cell kind.Int n = cell.Int n
number_cell kind.Date n = cell.Date n
number_cell kind.Text n = cell.Missing

-- the cell of the least or the greatest of so many numbers, missing where there is none
abbrev pub end_cell : Kind → ℕ → ℤ → Cell
end_cell k count n = if count == 0 then cell.Missing else number_cell k n

-- the range that is kept, of a column of the kind
abbrev pub range_kept : Kind → NumberRange → RangeSummary
range_kept k kept =
    record {
      count = kept.count;
      missing = kept.missing;
      least = end_cell k kept.count kept.low;
      greatest = end_cell k kept.count kept.high;
      sum = kept.sum;
    }

-- the end of the numbers so far, or the first one's
abbrev pub end_with : ℕ → ℤ → ℤ → ℤ
end_with count first next = if count == 0 then first else next

-- with one number more, which counts in the sum as so much
abbrev pub with_number : ℤ → ℤ → NumberRange → NumberRange
with_number n share kept =
    record {
      count = kept.count + 1;
      missing = kept.missing;
      low = end_with kept.count n (if is_lt (int_cmp n kept.low) then n else kept.low);
      high = end_with kept.count n (if is_lt (int_cmp kept.high n) then n else kept.high);
      sum = kept.sum +ℤ share;
    }
