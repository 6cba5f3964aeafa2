-- The histogram of rows over an axis, and their cumulative distribution.
use Rattle.std.specs.Prelude.{ℕ, List, map}
use Rattle.std.specs.List.{count_by, range_with_len}
use Rattle.hv_value.specs.Rows.{Row}
use Rattle.hv_bucket.specs.declared.buckets.Axis.{Axis}
use Rattle.hv_bucket.specs.Axes.{is_bucket, is_missing, is_outside, place_in}
use Rattle.hv_bucket.specs.Places.{buckets_len}
use Rattle.hv_hist.specs.declared.shown.CdfShown.{CdfShown}
use Rattle.hv_hist.specs.declared.shown.HistogramShown.{HistogramShown}
use Rattle.hv_hist.specs.Sums.{running_sums}

-- how many of the rows are in each bucket
abbrev pub bucket_counts : Axis → List Row → List ℕ
bucket_counts axis rows = map (λ b. count_by (λ row. is_bucket b (place_in axis row)) rows) (range_with_len 0 (buckets_len axis.buckets))

-- how many of the rows are in each bucket, how many have a missing cell, and how many others are in no bucket
abbrev pub histogram_of : Axis → List Row → HistogramShown
histogram_of axis rows = record {
  counts = bucket_counts axis rows;
  missing = count_by (λ row. is_missing (place_in axis row)) rows;
  outside = count_by (λ row. is_outside (place_in axis row)) rows;
}

-- the same with the running sums of the counts
abbrev pub cdf_of : Axis → List Row → CdfShown
cdf_of axis rows = record {
  missing = count_by (λ row. is_missing (place_in axis row)) rows;
  outside = count_by (λ row. is_outside (place_in axis row)) rows;
  sums = running_sums (bucket_counts axis rows);
}
