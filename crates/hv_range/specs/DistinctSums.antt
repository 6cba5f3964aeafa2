-- How the k least values of some rows change with one value more, and are joined with those of others.
use Rattle.std.specs.Prelude.{◌||◌, ℕ, length, nat_eq, nat_lt, take}
use Rattle.std.specs.List.{insert}
use Rattle.hv_value.specs.declared.cell.Cell.{Cell}
use Rattle.hv_value.specs.Order.{compare_cells}
use Rattle.hv_sketch.specs.Rising.{put_all}
use Rattle.hv_range.specs.Distinct.{kept}
use Rattle.hv_range.specs.declared.distinct_summary.DistinctSummary.{DistinctSummary}

-- a new value at its place, at most k kept
abbrev pub with_inserted : ℕ → ℕ → Cell → DistinctSummary → DistinctSummary
with_inserted k place value s = record { values = take k (insert s.values place value); more = s.more || nat_eq (length s.values) k }

-- the k least of both lists joined; there are more where either or their join has more
abbrev pub distinct_sum : ℕ → DistinctSummary → DistinctSummary → DistinctSummary
distinct_sum k a b =
    record {
      values = take k (put_all compare_cells kept a.values b.values);
      more = a.more || b.more || nat_lt k (length (put_all compare_cells kept a.values b.values));
    }
