-- The slots of a chart of one axis: one for each bucket, then one for rows outside of all, and one for missing cells.
use Rattle.std.specs.Prelude.{ℕ, ◌+◌, List}
use Rattle.hv_value.specs.Rows.{Row}
use Rattle.hv_bucket.specs.declared.buckets.Axis.{Axis}
use Rattle.hv_bucket.specs.declared.buckets.Place.{Place}
use Rattle.hv_bucket.specs.declared.buckets.Place.TheVariants as place
use Rattle.hv_bucket.specs.Axes.{place_in}
use Rattle.hv_bucket.specs.Places.{buckets_len}
use Rattle.hv_sketch.specs.Tally.{IsTally}

-- how many slots there are
abbrev pub slots_of : Axis → ℕ
slots_of axis = buckets_len axis.buckets + 2

-- the slot of a place among so many buckets
abbrev pub slot_of : ℕ → Place → ℕ
slot_of buckets (place.In bucket) = bucket
slot_of buckets place.Outside = buckets
slot_of buckets place.Missing = buckets + 1

-- the slot of a row
abbrev pub slot_in : Axis → Row → ℕ
slot_in axis row = slot_of (buckets_len axis.buckets) (place_in axis row)

-- the counts are those of at most 2^42 rows by slot
abbrev pub IsCounted : Axis → List Row → List ℕ → Type 0
IsCounted axis rows counts = IsTally (slots_of axis) (slot_in axis) rows counts
