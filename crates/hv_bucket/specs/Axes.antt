-- Where an axis puts the rows of a table: the words of every chart.
use Rattle.std.specs.Prelude.{ℕ, ◌==◌, Bool, true, false}
use Rattle.hv_value.specs.Cells.{cell_at}
use Rattle.hv_value.specs.Rows.{Row}
use Rattle.hv_bucket.specs.declared.buckets.Axis.{Axis}
use Rattle.hv_bucket.specs.declared.buckets.Place.{Place}
use Rattle.hv_bucket.specs.declared.buckets.Place.TheVariants as place
use Rattle.hv_bucket.specs.Places.{place_of}

-- where the axis puts a row
abbrev pub place_in : Axis → Row → Place
place_in axis row = place_of axis.buckets (cell_at row.cells axis.col)

-- whether a place is a bucket
abbrev pub is_bucket : ℕ → Place → Bool
is_bucket b (place.In bucket) = bucket == b
is_bucket b place.Outside = false
is_bucket b place.Missing = false

-- whether a place is outside of all buckets
abbrev pub is_outside : Place → Bool
is_outside (place.In bucket) = false
is_outside place.Outside = true
is_outside place.Missing = false

-- whether a place is that of a missing cell
abbrev pub is_missing : Place → Bool
is_missing (place.In bucket) = false
is_missing place.Outside = false
is_missing place.Missing = true
