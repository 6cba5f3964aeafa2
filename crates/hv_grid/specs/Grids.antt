-- Charts of two axes, and the groups of an axis.
use Rattle.std.specs.Prelude.{ℕ, Bool, true, false, not, ◌&&◌, List, map, Option, Some, None}
use Rattle.std.specs.List.{count_by, range_with_len}
use Rattle.hv_value.specs.Rows.{Row}
use Rattle.hv_bucket.specs.declared.buckets.Axis.{Axis}
use Rattle.hv_bucket.specs.declared.buckets.Place.{Place}
use Rattle.hv_bucket.specs.declared.buckets.Place.TheVariants as place
use Rattle.hv_bucket.specs.Axes.{is_bucket, is_missing, is_outside, place_in}
use Rattle.hv_bucket.specs.Places.{buckets_len}
use Rattle.hv_grid.specs.declared.shown.HeatMapShown.{HeatMapShown}
use Rattle.hv_grid.specs.declared.shown.StackedShown.{StackedShown}

-- whether a place is in a bucket
abbrev pub is_placed : Place → Bool
is_placed (place.In bucket) = true
is_placed place.Outside = false
is_placed place.Missing = false

-- how many of the rows are in each bucket of the first axis and each of the second one
abbrev pub grid_counts : Axis → Axis → List Row → List (List ℕ)
grid_counts x y rows =
    map (λ a. map (λ b. count_by (λ row. is_bucket a (place_in x row) && is_bucket b (place_in y row)) rows)
    (range_with_len 0 (buckets_len y.buckets))) (range_with_len 0 (buckets_len x.buckets))

-- the same; of the rows of each bucket of the first axis how many are in no bucket of the second one; and how many
-- rows have a missing cell on the first axis, and how many others are in no bucket of it
abbrev pub stacked_of : Axis → Axis → List Row → StackedShown
stacked_of x y rows = record {
  counts = grid_counts x y rows;
  missing = count_by (λ row. is_missing (place_in x row)) rows;
  other = map (λ a. count_by (λ row. is_bucket a (place_in x row) && not (is_placed (place_in y row))) rows) (range_with_len 0 (buckets_len x.buckets));
  outside = count_by (λ row. is_outside (place_in x row)) rows;
}

-- the same counts, and how many rows aren't in a bucket of both axes
abbrev pub heat_map_of : Axis → Axis → List Row → HeatMapShown
heat_map_of x y rows = record {
  counts = grid_counts x y rows;
  rest = count_by (λ row. not (is_placed (place_in x row) && is_placed (place_in y row))) rows;
}

-- the bucket that a place is, where it is one
abbrev pub placed_bucket : Place → Option ℕ
placed_bucket (place.In bucket) = Some bucket
placed_bucket place.Outside = None
placed_bucket place.Missing = None

-- the bucket that a row is in, where it is in one
abbrev pub bucket_in : Axis → Row → Option ℕ
bucket_in axis row = placed_bucket (place_in axis row)
