-- Axes of the charts that a message asks for: what is asked for, its limits, and what it means over columns.
use Rattle.std.specs.Prelude.{ℕ, ◌*◌, ℤ, pos, negsuc, nat_le, List, length, Bool, ◌&&◌, if◌then◌else◌, Option, Some, None, option_map, option_and_then, Result, Ok, Err, codes}
use Rattle.std.specs.List.{list_all}
use Rattle.serde_json.specs.Data.{Data}
use Rattle.serde_json.specs.Find.{get}
use Rattle.hv_value.specs.Days.{day_of_text}
use Rattle.hv_value.specs.declared.cell.Kind.{Kind}
use Rattle.hv_value.specs.declared.cell.Kind.TheVariants as kind
use Rattle.hv_value.specs.Schema.{Columns, column_place}
use Rattle.hv_sketch.specs.Columns.{kind_at}
use Rattle.hv_bucket.specs.declared.buckets.Axis.{Axis}
use Rattle.hv_bucket.specs.declared.buckets.Buckets.TheVariants as buckets
use Rattle.hv_bucket.specs.Places.{are_buckets}
use Rattle.hv_asked.specs.declared.asked.AxisAsked.{AxisAsked}
use Rattle.hv_asked.specs.declared.asked.AxisAsked.TheVariants.{Numbers, Texts}
use Rattle.hv_asked.specs.declared.asked.CellAsked.{CellAsked}
use Rattle.hv_asked.specs.declared.asked.CellAsked.TheVariants as asked
use Rattle.hv_asked.specs.declared.limits.TheConstants.{MAX_COUNTS}
use Rattle.hv_asked.specs.declared.why.Why.{Why}
use Rattle.hv_asked.specs.declared.why.Why.TheVariants as why
use Rattle.hv_asked.specs.Constants.{cell_at, fits_cell, is_short}
use Rattle.hv_asked.specs.Fields.{integer_at, text_at, texts_at}
use Rattle.hv_asked.specs.Flaws.{and_then, map_ok}

-- ---- what is asked for

-- an axis of texts: the column, and the left boundaries of its buckets
abbrev pub texts_of : Data → Option AxisAsked
texts_of value = option_and_then (λ col. option_map (λ bounds. Texts col bounds) (texts_at (codes "bounds") value)) (text_at (codes "col") value)

-- an axis of numbers or days: the column, the least and the greatest of them, how many buckets
abbrev pub numbers_of : Data → Option AxisAsked
numbers_of value =
    option_and_then (λ col. option_and_then (λ lo. option_and_then (λ hi. option_map (λ n. Numbers col lo hi n)
    (integer_at (codes "n") value)) (cell_at (codes "hi") value)) (cell_at (codes "lo") value)) (text_at (codes "col") value)

-- an axis with left boundaries is one of texts, whatever else it holds
abbrev pub axis_with : Data → Option Data → Option AxisAsked
axis_with value None = numbers_of value
axis_with value (Some bounds) = texts_of value

abbrev pub axis_of : Data → Option AxisAsked
axis_of value = axis_with value (get (codes "bounds") value)

-- the axis under a key
abbrev pub axis_in : List ℕ → Data → Option AxisAsked
axis_in key value = option_and_then axis_of (get key value)

-- two axes, the first under `x` and the second under `y`
abbrev pub axes_in : Data → Option (AxisAsked × AxisAsked)
axes_in value = option_and_then (λ x. option_map (λ y. (x, y)) (axis_in (codes "y") value)) (axis_in (codes "x") value)

-- ---- its limits: those of its constants. Too many buckets are within them: they are refused where the buckets are made, as are none

abbrev pub fits_asked : AxisAsked → Bool
fits_asked (Numbers col lo hi n) = fits_cell lo && fits_cell hi
fits_asked (Texts col bounds) = list_all is_short bounds

-- how many buckets a whole number asks for: one below 0 asks for none
abbrev pub bucket_count : ℤ → ℕ
bucket_count (pos n) = n
bucket_count (negsuc n) = 0

-- how many buckets an axis asks for
abbrev pub buckets_asked : AxisAsked → ℕ
buckets_asked (Numbers col lo hi n) = bucket_count n
buckets_asked (Texts col bounds) = length bounds

-- whether a chart has at most 65,536 counts
abbrev pub are_few : ℕ → Bool
are_few counts = nat_le counts MAX_COUNTS

-- two axes, and the counts of each bucket of one with each of the other
abbrev pub do_fit : AxisAsked → AxisAsked → Bool
do_fit x y = fits_asked x && fits_asked y && are_few (buckets_asked x * buckets_asked y)

-- ---- what it means

-- a column's place and kind, where it has one
abbrev pub of_kind : ℕ → Option Kind → Result (ℕ × Kind) Why
of_kind col None = Err why.Column
of_kind col (Some k) = Ok (col, k)

abbrev pub column_at : Columns → Option ℕ → Result (ℕ × Kind) Why
column_at columns None = Err why.Column
column_at columns (Some col) = of_kind col (kind_at columns col)

-- where the column with a name is, and of which kind it is
abbrev pub column_named : Columns → List ℕ → Result (ℕ × Kind) Why
column_named columns name = column_at columns (column_place name columns)

abbrev pub of_day : Option ℤ → Result ℤ Why
of_day None = Err why.Kind
of_day (Some day) = Ok day

-- an end of numbers beside a column of a kind: a whole number beside whole numbers, a day's number beside dates, none beside texts
abbrev pub end_of : Kind → CellAsked → Result ℤ Why
end_of kind.Int (asked.Number n) = Ok n
end_of kind.Date (asked.Text text) = of_day (day_of_text text)
end_of _ _ = Err why.Kind

-- so many buckets of the numbers of a column, whether there are such buckets or not
abbrev pub numbers_over : CellAsked → CellAsked → ℤ → ℕ × Kind → Result Axis Why
numbers_over lo hi n column = and_then (λ least. map_ok (λ greatest.
    record { col = column.0; buckets = buckets.Int (record { lo = least; hi = greatest; n = bucket_count n }) })
    (end_of column.1 hi)) (end_of column.1 lo)

-- what reads texts, beside a column of a kind
abbrev pub of_texts : Kind → Axis → Result Axis Why
of_texts kind.Int axis = Err why.Kind
of_texts kind.Date axis = Err why.Kind
of_texts kind.Text axis = Ok axis

-- buckets of the texts of a column, whether there are such buckets or not
abbrev pub texts_over : List (List ℕ) → ℕ × Kind → Result Axis Why
texts_over bounds column = of_texts column.1 (record { col = column.0; buckets = buckets.Text bounds })

-- an axis over columns, whether there are such buckets or not
abbrev pub found : Columns → AxisAsked → Result Axis Why
found columns (Numbers name lo hi n) = and_then (numbers_over lo hi n) (column_named columns name)
found columns (Texts name bounds) = and_then (texts_over bounds) (column_named columns name)

-- an axis, where there are such buckets
abbrev pub bucketed : Axis → Result Axis Why
bucketed axis = if are_buckets axis.buckets then Ok axis else Err why.Buckets

-- two in order: the word of the first before that of the second
abbrev pub in_order : {A B : Type 0} → Result A Why → Result B Why → Result (A × B) Why
in_order first second = and_then (λ a. map_ok (λ b. (a, b)) second) first

-- one axis, two, and three of them: the columns of all are looked up before the buckets of any
abbrev pub one_axis : Columns → AxisAsked → Result Axis Why
one_axis columns x = and_then bucketed (found columns x)

abbrev pub both_bucketed : Axis × Axis → Result (Axis × Axis) Why
both_bucketed axes = in_order (bucketed axes.0) (bucketed axes.1)

abbrev pub two_axes : Columns → AxisAsked → AxisAsked → Result (Axis × Axis) Why
two_axes columns x y = and_then both_bucketed (in_order (found columns x) (found columns y))

abbrev pub all_bucketed : Axis × (Axis × Axis) → Result (Axis × (Axis × Axis)) Why
all_bucketed axes = in_order (bucketed axes.0) (both_bucketed axes.1)

abbrev pub three_axes : Columns → AxisAsked → AxisAsked → AxisAsked → Result (Axis × (Axis × Axis)) Why
three_axes columns by x y = and_then all_bucketed (in_order (found columns by) (in_order (found columns x) (found columns y)))
