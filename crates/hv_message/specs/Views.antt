-- Views that a message asks for: what is asked for, its limits, and what it means over columns.
use Rattle.std.specs.Prelude.{ℕ, ◌*◌, ℤ, pos, unsigned_abs, int_le, nat_le, List, length, Bool, true, ◌&&◌, if◌then◌else◌, Option, None, option_map, option_and_then, Result, Ok, Err, bytes_eq, codes}
use Rattle.serde_json.specs.Data.{Data}
use Rattle.serde_json.specs.Find.{get}
use Rattle.hv_value.specs.declared.cell.Cell.{Cell}
use Rattle.hv_value.specs.declared.cell.Kind.{Kind}
use Rattle.hv_value.specs.declared.cell.Kind.TheVariants as kind
use Rattle.hv_value.specs.declared.orders.OrderKey.{OrderKey}
use Rattle.hv_value.specs.Schema.{Columns}
use Rattle.hv_bucket.specs.declared.buckets.Axis.{Axis}
use Rattle.hv_bucket.specs.declared.error.TheConstants.{MAX_BUCKETS}
use Rattle.hv_expr.specs.declared.text_test.TextTest.{TextTest}
use Rattle.hv_view.specs.declared.any_view.AnyView.TheVariants as any
use Rattle.hv_view.specs.declared.plan.Plan.{Plan}
use Rattle.hv_view.specs.declared.plan.Plan.TheVariants as plan
use Rattle.hv_view.specs.declared.plan.Plan.TheVariants.{One, AutoHistogram}
use Rattle.hv_message.specs.declared.asked.ViewAsked.{ViewAsked}
use Rattle.hv_message.specs.declared.asked.ViewAsked.TheVariants.{Range, Distinct, Histogram, Cdf, Stacked, HeatMap, Trellis, Next, Find, Heavy, Count, Auto, Frequent, Quantiles}
use Rattle.hv_asked.specs.declared.asked.AxisAsked.{AxisAsked}
use Rattle.hv_asked.specs.declared.asked.CellAsked.{CellAsked}
use Rattle.hv_message.specs.declared.asked.InnerAsked.{InnerAsked}
use Rattle.hv_message.specs.declared.asked.InnerAsked.TheVariants as inner
use Rattle.hv_asked.specs.declared.orders.OrderAsked.{OrderAsked}
use Rattle.hv_asked.specs.declared.why.Why.{Why}
use Rattle.hv_asked.specs.declared.why.Why.TheVariants as why
use Rattle.hv_asked.specs.Axes.{are_few, axes_in, axis_in, buckets_asked, column_named, do_fit, fits_asked, one_axis, two_axes, three_axes}
use Rattle.hv_asked.specs.Constants.{is_short}
use Rattle.hv_asked.specs.Flaws.{all_meant, and_then, map_ok}
use Rattle.hv_asked.specs.Fields.{integer_at, text_at, texts_at}
use Rattle.hv_asked.specs.Orders.{fits_order, order_alone_in, order_in, order_over}
use Rattle.hv_asked.specs.Trees.{test_in, under}
use Rattle.hv_asked.specs.Values.{fit_values, value_beside, values_at}
use Rattle.hv_asked.specs.declared.limits.TheConstants.{MAX_DISTINCT, MAX_FIND_COLUMNS, MAX_GROUPS, MAX_HEAVY, MAX_NEXT, MAX_QUANTILES, MAX_SAMPLE}
use Rattle.hv_message.specs.Samples.{is_seed}

-- ---- what a view asks for

abbrev pub range_of : Data → Option ViewAsked
range_of value = option_map Range (text_at (codes "col") value)

abbrev pub distinct_of : Data → Option ViewAsked
distinct_of value = option_and_then (λ col. option_map (Distinct col) (integer_at (codes "k") value)) (text_at (codes "col") value)

abbrev pub stacked_of : Data → Option ViewAsked
stacked_of value = option_map (λ (axes : AxisAsked × AxisAsked). Stacked axes.0 axes.1) (axes_in value)

abbrev pub heat_map_of : Data → Option ViewAsked
heat_map_of value = option_map (λ (axes : AxisAsked × AxisAsked). HeatMap axes.0 axes.1) (axes_in value)

-- what is taken of each group's rows: a histogram or a heat map
abbrev pub inner_with : Data → List ℕ → Option InnerAsked
inner_with value word =
    if bytes_eq word (codes "histogram") then option_map inner.Histogram (axis_in (codes "axis") value)
    else if bytes_eq word (codes "heatmap") then option_map (λ (axes : AxisAsked × AxisAsked). inner.HeatMap axes.0 axes.1) (axes_in value)
    else None

abbrev pub inner_of : Data → Option InnerAsked
inner_of value = option_and_then (inner_with value) (text_at (codes "kind") value)

-- next rows: the order, the key in it, and how many of them
abbrev pub next_of : Data → Option ViewAsked
next_of value = option_and_then (λ order. option_map (Next order) (integer_at (codes "k") value)) (order_in value)

-- a search: the columns, the test, the order and the key in it
abbrev pub find_of : Data → Option ViewAsked
find_of value = option_and_then (λ cols. option_and_then (λ test. option_map (Find cols test) (order_in value)) (under test_in (codes "test") value)) (texts_at (codes "cols") value)

-- the column of a view, and a whole number under a key
abbrev pub column_and : List ℕ → Data → Option (List ℕ × ℤ)
column_and key value = option_and_then (λ col. option_map (λ n. (col, n)) (integer_at key value)) (text_at (codes "col") value)

-- heavy hitters, frequent values and a histogram between a column's own ends: the column and a number
abbrev pub heavy_of : Data → Option ViewAsked
heavy_of value = option_map (λ (asked : List ℕ × ℤ). Heavy asked.0 asked.1) (column_and (codes "k") value)

abbrev pub frequent_of : Data → Option ViewAsked
frequent_of value = option_map (λ (asked : List ℕ × ℤ). Frequent asked.0 asked.1) (column_and (codes "k") value)

abbrev pub auto_of : Data → Option ViewAsked
auto_of value = option_map (λ (asked : List ℕ × ℤ). Auto asked.0 asked.1) (column_and (codes "n") value)

-- counts: the column and the values
abbrev pub count_of : Data → Option ViewAsked
count_of value = option_and_then (λ col. option_map (Count col) (values_at (codes "values") value)) (text_at (codes "col") value)

-- quantiles of a sample: the order, how many rows and quantiles, and the seed
abbrev pub quantiles_of : Data → Option ViewAsked
quantiles_of value = option_and_then (λ order. option_and_then (λ k. option_and_then (λ q.
    option_map (Quantiles order k q) (integer_at (codes "seed") value)) (integer_at (codes "q") value)) (integer_at (codes "k") value)) (order_alone_in value)

abbrev pub trellis_of : Data → Option ViewAsked
trellis_of value = option_and_then (λ by. option_map (Trellis by) (option_and_then inner_of (get (codes "view") value))) (axis_in (codes "by") value)

-- a view by its kind's word
abbrev pub view_with : Data → List ℕ → Option ViewAsked
view_with value word =
    if bytes_eq word (codes "range") then range_of value
    else if bytes_eq word (codes "distinct") then distinct_of value
    else if bytes_eq word (codes "histogram") then option_map Histogram (axis_in (codes "axis") value)
    else if bytes_eq word (codes "cdf") then option_map Cdf (axis_in (codes "axis") value)
    else if bytes_eq word (codes "stacked") then stacked_of value
    else if bytes_eq word (codes "heatmap") then heat_map_of value
    else if bytes_eq word (codes "trellis") then trellis_of value
    else if bytes_eq word (codes "next") then next_of value
    else if bytes_eq word (codes "find") then find_of value
    else if bytes_eq word (codes "heavy") then heavy_of value
    else if bytes_eq word (codes "count") then count_of value
    else if bytes_eq word (codes "auto") then auto_of value
    else if bytes_eq word (codes "frequent") then frequent_of value
    else if bytes_eq word (codes "quantiles") then quantiles_of value
    else None

abbrev pub view_of : Data → Option ViewAsked
view_of value = option_and_then (view_with value) (text_at (codes "kind") value)

abbrev pub view_in : Data → Option ViewAsked
view_in value = option_and_then view_of (get (codes "view") value)

-- ---- its limits: 1 to 500 different values or keys, 1 to 1,000 heavy hitters or frequent values, at most 1,000 counted ones,
-- 1 to 64 columns of a search, 1 to 10,000 rows and 2 to 100 quantiles of a sample, and those of its axes, its order, its test and
-- its seed. The buckets of a histogram between a column's own ends are within them: they are refused where the plan is made

-- what is taken of each group's rows has its own limits, wherever it is taken
abbrev pub fits_inner : InnerAsked → Bool
fits_inner (inner.Histogram x) = fits_asked x
fits_inner (inner.HeatMap x y) = do_fit x y

-- how many counts it has
abbrev pub counts_asked : InnerAsked → ℕ
counts_asked (inner.Histogram x) = buckets_asked x
counts_asked (inner.HeatMap x y) = buckets_asked x * buckets_asked y

-- at most 64 groups, and the counts of all of them
abbrev pub fits_trellis : AxisAsked → InnerAsked → Bool
fits_trellis by inner = fits_asked by && fits_inner inner && nat_le (buckets_asked by) MAX_GROUPS && are_few (buckets_asked by * counts_asked inner)

-- whether a whole number is one from 1 to the most
abbrev pub is_from_one : ℕ → ℤ → Bool
is_from_one most k = int_le (pos 1) k && int_le k (pos most)

-- whether a search is within its limits
abbrev pub fits_find : List (List ℕ) → TextTest → OrderAsked → Bool
fits_find cols test order = nat_le 1 (length cols) && nat_le (length cols) MAX_FIND_COLUMNS && is_short test.text && fits_order order

-- whether the rows, the quantiles and the seed of a sample are within their limits
unfoldable pub fit_numbers : ℤ → ℤ → ℤ → Bool
fit_numbers k q seed = is_from_one MAX_SAMPLE k && int_le (pos 2) q && int_le q (pos MAX_QUANTILES) && is_seed seed

abbrev pub fits_view : ViewAsked → Bool
fits_view (Range col) = true
fits_view (Distinct col k) = is_from_one MAX_DISTINCT k
fits_view (Histogram axis) = fits_asked axis
fits_view (Cdf axis) = fits_asked axis
fits_view (Stacked x y) = do_fit x y
fits_view (HeatMap x y) = do_fit x y
fits_view (Trellis by inner) = fits_trellis by inner
fits_view (Next order k) = fits_order order && is_from_one MAX_NEXT k
fits_view (Find cols test order) = fits_find cols test order
fits_view (Heavy col k) = is_from_one MAX_HEAVY k
fits_view (Count col values) = fit_values values
fits_view (Auto col n) = true
fits_view (Frequent col k) = is_from_one MAX_HEAVY k
fits_view (Quantiles order k q seed) = fits_order order && fit_numbers k q seed

-- ---- what it means

-- the plan of a view of the rows of each bucket of an axis
abbrev pub trellis_over : Columns → AxisAsked → InnerAsked → Result Plan Why
trellis_over columns by (inner.Histogram x) = map_ok (λ (both : Axis × Axis).
    One (any.TrellisHistogram (record { groups = record { 0 = both.0 }; inner = record { axis = both.1 } }))) (two_axes columns by x)
trellis_over columns by (inner.HeatMap x y) = map_ok (λ (all : Axis × (Axis × Axis)).
    One (any.TrellisHeatMap (record { groups = record { 0 = all.0 }; inner = record { x = all.1.0; y = all.1.1 } }))) (three_axes columns by x y)

-- where a column is, which has to be one of texts
abbrev pub of_texts : ℕ × Kind → Result ℕ Why
of_texts (col, kind.Int) = Err why.Kind
of_texts (col, kind.Date) = Err why.Kind
of_texts (col, kind.Text) = Ok col

-- where the column of texts with a name is
abbrev pub text_named : Columns → List ℕ → Result ℕ Why
text_named columns name = and_then of_texts (column_named columns name)

-- the plan of next rows and of a search, over an order and the key in it
abbrev pub next_plan : ℤ → List OrderKey × Option (List Cell) → Plan
next_plan k found = One (any.NextRows (record { order = found.0; after = found.1; k = unsigned_abs k }))

abbrev pub find_plan : List ℕ → TextTest → List OrderKey × Option (List Cell) → Plan
find_plan cols test found = One (any.Find (record { cols = cols; test = test; order = found.0; after = found.1 }))

-- the plan of a sample for quantiles, over an order without a key in it
abbrev pub quantiles_plan : ℤ → ℤ → ℤ → List OrderKey × Option (List Cell) → Plan
quantiles_plan k q seed found = One (any.Sample (record { order = found.0; seed = unsigned_abs seed; k = unsigned_abs k; q = unsigned_abs q }))

-- the plan of the counts of values in a column
abbrev pub count_plan : List CellAsked → ℕ × Kind → Result Plan Why
count_plan asked column = map_ok (λ values. One (any.CountOf (record { col = column.0; values = values }))) (all_meant (value_beside column.1) asked)

-- the plan of so many buckets between the ends of a column, where there are such buckets
abbrev pub auto_plan : ℤ → ℕ × Kind → Result Plan Why
auto_plan n (col, kind.Text) = Err why.Kind
auto_plan n (col, kind.Int) = if is_from_one MAX_BUCKETS n then Ok (AutoHistogram col (unsigned_abs n)) else Err why.Buckets
auto_plan n (col, kind.Date) = if is_from_one MAX_BUCKETS n then Ok (AutoHistogram col (unsigned_abs n)) else Err why.Buckets

-- the plan of its value over columns
abbrev pub planned : Columns → ViewAsked → Result Plan Why
planned columns (Range name) = map_ok (λ (column : ℕ × Kind). One (any.Range (record { col = column.0; kind = column.1 }))) (column_named columns name)
planned columns (Distinct name k) = map_ok (λ (column : ℕ × Kind). One (any.Distinct (record { col = column.0; k = unsigned_abs k }))) (column_named columns name)
planned columns (Histogram x) = map_ok (λ x. One (any.Histogram (record { axis = x }))) (one_axis columns x)
planned columns (Cdf x) = map_ok (λ x. One (any.Cdf (record { histogram = record { axis = x } }))) (one_axis columns x)
planned columns (Stacked x y) = map_ok (λ (both : Axis × Axis). One (any.Stacked (record { x = both.0; y = both.1 }))) (two_axes columns x y)
planned columns (HeatMap x y) = map_ok (λ (both : Axis × Axis). One (any.HeatMap (record { x = both.0; y = both.1 }))) (two_axes columns x y)
planned columns (Trellis by inner) = trellis_over columns by inner
planned columns (Next order k) = map_ok (next_plan k) (order_over columns order)
planned columns (Find names test order) = and_then (λ cols. map_ok (find_plan cols test) (order_over columns order)) (all_meant (text_named columns) names)
planned columns (Heavy name k) = map_ok (λ (column : ℕ × Kind). One (any.Heavy (record { col = column.0; k = unsigned_abs k }))) (column_named columns name)
planned columns (Count name values) = and_then (count_plan values) (column_named columns name)
planned columns (Auto name n) = and_then (auto_plan n) (column_named columns name)
planned columns (Frequent name k) = map_ok (λ (column : ℕ × Kind). plan.Frequent column.0 (unsigned_abs k)) (column_named columns name)
planned columns (Quantiles order k q seed) = map_ok (quantiles_plan k q seed) (order_over columns order)
