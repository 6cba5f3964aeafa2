-- The slots of charts of two axes: those of a grid, row by row, and then those of the rows that are nowhere in it.
use Rattle.std.specs.Prelude.{ℕ, ◌+◌, ◌*◌, List}
use Rattle.hv_value.specs.Rows.{Row}
use Rattle.hv_bucket.specs.declared.buckets.Axis.{Axis}
use Rattle.hv_bucket.specs.declared.buckets.Place.{Place}
use Rattle.hv_bucket.specs.declared.buckets.Place.TheVariants as place
use Rattle.hv_bucket.specs.Axes.{place_in}
use Rattle.hv_bucket.specs.Places.{buckets_len}
use Rattle.hv_sketch.specs.Tally.{IsTally}

-- the column of a place among so many buckets: its bucket, or the one after them
abbrev pub column_in : ℕ → Place → ℕ
column_in columns (place.In bucket) = bucket
column_in columns place.Outside = columns
column_in columns place.Missing = columns

-- the slot of two places in a stacked histogram of so many rows and columns: after those of the grid comes one for
-- rows outside of all buckets of the first axis, and one for its missing cells
abbrev pub stacked_slot : ℕ → ℕ → Place → Place → ℕ
stacked_slot rows columns (place.In bucket) second = bucket * (columns + 1) + column_in columns second
stacked_slot rows columns place.Outside second = rows * (columns + 1)
stacked_slot rows columns place.Missing second = rows * (columns + 1) + 1

-- the slot of a row in a stacked histogram
abbrev pub stacked_slot_in : Axis → Axis → Row → ℕ
stacked_slot_in x y row = stacked_slot (buckets_len x.buckets) (buckets_len y.buckets) (place_in x row) (place_in y row)

-- how many slots a stacked histogram has
abbrev pub stacked_slots : Axis → Axis → ℕ
stacked_slots x y = buckets_len x.buckets * (buckets_len y.buckets + 1) + 2

-- the counts are those of at most 2^42 rows by the slots of a stacked histogram
abbrev pub IsStackedCounted : Axis → Axis → List Row → List ℕ → Type 0
IsStackedCounted x y rows counts = IsTally (stacked_slots x y) (stacked_slot_in x y) rows counts

-- the slot of two places in a heat map of so many rows and columns: after those of the grid comes one for rows that
-- aren't in a bucket of both axes
abbrev pub heat_map_slot : ℕ → ℕ → Place → Place → ℕ
heat_map_slot rows columns (place.In a) (place.In b) = a * columns + b
heat_map_slot rows columns (place.In a) place.Outside = rows * columns
heat_map_slot rows columns (place.In a) place.Missing = rows * columns
heat_map_slot rows columns place.Outside second = rows * columns
heat_map_slot rows columns place.Missing second = rows * columns

-- the slot of a row in a heat map
abbrev pub heat_map_slot_in : Axis → Axis → Row → ℕ
heat_map_slot_in x y row = heat_map_slot (buckets_len x.buckets) (buckets_len y.buckets) (place_in x row) (place_in y row)

-- how many slots a heat map has
abbrev pub heat_map_slots : Axis → Axis → ℕ
heat_map_slots x y = buckets_len x.buckets * buckets_len y.buckets + 1

-- the counts are those of at most 2^42 rows by the slots of a heat map
abbrev pub IsHeatMapCounted : Axis → Axis → List Row → List ℕ → Type 0
IsHeatMapCounted x y rows counts = IsTally (heat_map_slots x y) (heat_map_slot_in x y) rows counts
