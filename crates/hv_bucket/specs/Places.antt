-- Where a cell is put, and which columns have such cells: this project's own rule.
use Rattle.std.specs.Prelude.{ℕ, List, length, Bool, true, false, Option, Some, None, slice_get}
use Rattle.hv_value.specs.declared.cell.Cell.{Cell}
use Rattle.hv_value.specs.declared.cell.Cell.TheVariants as cell
use Rattle.hv_value.specs.declared.cell.Kind.{Kind}
use Rattle.hv_value.specs.declared.cell.Kind.TheVariants as kind
use Rattle.hv_value.specs.Schema.{Columns}
use Rattle.hv_bucket.specs.declared.buckets.Axis.{Axis}
use Rattle.hv_bucket.specs.declared.buckets.Place.{Place}
use Rattle.hv_bucket.specs.declared.buckets.Place.TheVariants as place
use Rattle.hv_bucket.specs.declared.buckets.Buckets.{Buckets}
use Rattle.hv_bucket.specs.declared.buckets.Buckets.TheVariants as buckets
use Rattle.hv_bucket.specs.Buckets.{number_place, text_place}
use Rattle.hv_bucket.specs.Limits.{are_int_limits, are_text_limits}

-- the number of buckets
abbrev pub buckets_len : Buckets → ℕ
buckets_len (buckets.Int limits) = limits.n
buckets_len (buckets.Text bounds) = length bounds

-- what each value of the type keeps
abbrev pub are_buckets : Buckets → Bool
are_buckets (buckets.Int limits) = are_int_limits limits
are_buckets (buckets.Text bounds) = are_text_limits bounds

-- where a cell is put: a missing one is missing, a day goes by its number, and a cell of another kind is outside
abbrev pub place_of : Buckets → Cell → Place
place_of b cell.Missing = place.Missing
place_of (buckets.Int limits) (cell.Int n) = number_place limits.lo limits.hi limits.n n
place_of (buckets.Int limits) (cell.Date day) = number_place limits.lo limits.hi limits.n day
place_of (buckets.Text bounds) (cell.Text text) = text_place bounds text
place_of b c = place.Outside

-- whether cells of the kind can be put into a bucket
abbrev pub takes_kind : Buckets → Kind → Bool
takes_kind (buckets.Int limits) kind.Int = true
takes_kind (buckets.Int limits) kind.Date = true
takes_kind (buckets.Text bounds) kind.Text = true
takes_kind b k = false

-- whether there is a column, of a kind whose cells can be put into a bucket
abbrev pub takes_column : Buckets → Option (List ℕ × Kind) → Bool
takes_column b None = false
takes_column b (Some column) = takes_kind b column.1

-- whether the axis' column is there and of such a kind
abbrev pub fits_axis : Columns → Axis → Bool
fits_axis columns axis = takes_column axis.buckets (slice_get columns axis.col)
