-- Cells and the values of views as JSON: this project's own rule, over serde_json's words for JSON data. Keys are in byte order.
use Rattle.std.specs.Prelude.{ℕ, ℤ, List, [], ◌∷◌, map, Option, Some, None, codes, if◌then◌else◌}
use Rattle.std.specs.Fmt.{signed_decimal}
use Rattle.serde_json.specs.Data.{Data, null, boolean, number, string, array, object, member, no_members, unsigned}
use Rattle.serde_json.specs.Find.{of_integer}
use Rattle.serde_json.specs.View.{items_of}
use Rattle.hv_value.specs.Civil.{text_of_day}
use Rattle.hv_value.specs.Days.{is_day_number}
use Rattle.hv_value.specs.declared.cell.Cell.{Cell}
use Rattle.hv_value.specs.declared.cell.Cell.TheVariants as cell
use Rattle.hv_find.specs.declared.summary.FindSummary.{FindSummary}
use Rattle.hv_grid.specs.declared.shown.HeatMapShown.{HeatMapShown}
use Rattle.hv_grid.specs.declared.shown.StackedShown.{StackedShown}
use Rattle.hv_heavy.specs.declared.count_of.CountShown.{CountShown}
use Rattle.hv_heavy.specs.declared.summary.HeavyPair.{HeavyPair}
use Rattle.hv_heavy.specs.declared.summary.HeavySummary.{HeavySummary}
use Rattle.hv_hist.specs.declared.shown.CdfShown.{CdfShown}
use Rattle.hv_hist.specs.declared.shown.HistogramShown.{HistogramShown}
use Rattle.hv_next.specs.declared.summary.NextRow.{NextRow}
use Rattle.hv_next.specs.declared.summary.NextSummary.{NextSummary}
use Rattle.hv_quant.specs.declared.value.SampleValue.{SampleValue}
use Rattle.hv_view.specs.declared.auto.AutoShown.{AutoShown}
use Rattle.hv_view.specs.declared.frequent.FrequentPair.{FrequentPair}
use Rattle.hv_view.specs.declared.frequent.FrequentShown.{FrequentShown}
use Rattle.hv_view.specs.declared.shown.Shown.{Shown}
use Rattle.hv_view.specs.declared.shown.Shown.TheVariants as shown

abbrev pub whole : ℕ → Data
whole n = number (unsigned n)

-- a number, or null where there is none
abbrev pub whole_or_null : Option ℕ → Data
whole_or_null None = null
whole_or_null (Some n) = whole n

abbrev pub list_of : List Data → Data
list_of values = array (items_of values)

-- a day: the text of a day of the years 1 to 9999; another day has no text, and is its number
abbrev pub day_data : ℤ → Data
day_data day = if is_day_number day then string (text_of_day day) else number (of_integer day)

-- a cell: null, a number, a date's text, or a text
abbrev pub cell_data : Cell → Data
cell_data cell.Missing = null
cell_data (cell.Int n) = number (of_integer n)
cell_data (cell.Date day) = day_data day
cell_data (cell.Text text) = string text

-- a sum is a text, since it may be wider than 64 bits, and null where there is none
abbrev pub sum_data : Option ℤ → Data
sum_data None = null
sum_data (Some sum) = string (signed_decimal sum)

-- counts, in turn
abbrev pub counts_data : List ℕ → Data
counts_data counts = list_of (map whole counts)

abbrev pub histogram_data : HistogramShown → Data
histogram_data histogram = object (member (codes "counts") (counts_data histogram.counts)
    (member (codes "missing") (whole histogram.missing)
    (member (codes "outside") (whole histogram.outside) no_members)))

abbrev pub cdf_data : CdfShown → Data
cdf_data cdf = object (member (codes "missing") (whole cdf.missing)
    (member (codes "outside") (whole cdf.outside)
    (member (codes "sums") (counts_data cdf.sums) no_members)))

-- rows of counts, in turn
abbrev pub grid_data : List (List ℕ) → Data
grid_data rows = list_of (map counts_data rows)

abbrev pub stacked_data : StackedShown → Data
stacked_data stacked = object (member (codes "counts") (grid_data stacked.counts)
    (member (codes "missing") (whole stacked.missing)
    (member (codes "other") (counts_data stacked.other)
    (member (codes "outside") (whole stacked.outside) no_members))))

abbrev pub heat_map_data : HeatMapShown → Data
heat_map_data heat = object (member (codes "counts") (grid_data heat.counts)
    (member (codes "rest") (whole heat.rest) no_members))

-- the value of each group, and how many rows are in none
abbrev pub groups_data : List Data → ℕ → Data
groups_data groups rest = object (member (codes "groups") (list_of groups)
    (member (codes "rest") (whole rest) no_members))

-- a key: its cells in turn
abbrev pub key_data : List Cell → Data
key_data key = list_of (map cell_data key)

-- a key, and how many rows have it
abbrev pub next_row_data : NextRow → Data
next_row_data row = object (member (codes "count") (whole row.count)
    (member (codes "key") (key_data row.key) no_members))

-- how many rows aren't above, and the keys above, in turn
abbrev pub next_data : NextSummary → Data
next_data next = object (member (codes "before") (whole next.before)
    (member (codes "rows") (list_of (map next_row_data next.rows)) no_members))

-- a key, or null where there is none
abbrev pub key_or_null : Option (List Cell) → Data
key_or_null None = null
key_or_null (Some key) = key_data key

-- how many rows that match are above, how many aren't, and the least key above
abbrev pub find_data : FindSummary → Data
find_data find = object (member (codes "above") (whole find.above)
    (member (codes "before") (whole find.before)
    (member (codes "first") (key_or_null find.first) no_members)))

-- the quantiles of a sample, each a key, how many rows it has, and its seed
abbrev pub quantiles_data : SampleValue → Data
quantiles_data sample = object (member (codes "quantiles") (list_of (map key_data sample.quantiles))
    (member (codes "rows") (whole sample.rows)
    (member (codes "seed") (whole sample.seed) no_members)))

-- a list of a value and a number
abbrev pub counted_data : Cell → ℕ → Data
counted_data value count = list_of (cell_data value ∷ whole count ∷ [])

abbrev pub heavy_pair_data : HeavyPair → Data
heavy_pair_data pair = counted_data pair.value pair.estimate

abbrev pub frequent_pair_data : FrequentPair → Data
frequent_pair_data pair = counted_data pair.value pair.count

-- how many cells are missing, how many aren't, and pairs of a value and an estimate
abbrev pub heavy_data : HeavySummary → Data
heavy_data heavy = object (member (codes "missing") (whole heavy.missing)
    (member (codes "n") (whole heavy.n)
    (member (codes "pairs") (list_of (map heavy_pair_data heavy.pairs)) no_members)))

-- the counts of the given values, in their order, how many cells are missing, and how many aren't
abbrev pub count_data : CountShown → Data
count_data count = object (member (codes "counts") (counts_data count.counts)
    (member (codes "missing") (whole count.missing)
    (member (codes "n") (whole count.n) no_members)))

-- the counts of the buckets, the ends, null where there are none, and how many cells are missing
abbrev pub auto_data : AutoShown → Data
auto_data auto = object (member (codes "counts") (counts_data auto.counts)
    (member (codes "hi") (cell_data auto.hi)
    (member (codes "lo") (cell_data auto.lo)
    (member (codes "missing") (whole auto.missing) no_members))))

-- how many cells are missing, how many aren't, and pairs of a value and its count
abbrev pub frequent_data : FrequentShown → Data
frequent_data frequent = object (member (codes "missing") (whole frequent.missing)
    (member (codes "n") (whole frequent.n)
    (member (codes "pairs") (list_of (map frequent_pair_data frequent.pairs)) no_members)))

-- the value of a view or of a plan
abbrev pub shown_data : Shown → Data
shown_data (shown.Range count greatest least missing sum) = object (member (codes "count") (whole count)
    (member (codes "max") (cell_data greatest)
    (member (codes "min") (cell_data least)
    (member (codes "missing") (whole missing)
    (member (codes "sum") (sum_data sum) no_members)))))
shown_data (shown.Distinct more values) = object (member (codes "more") (boolean more)
    (member (codes "values") (list_of (map cell_data values)) no_members))
shown_data (shown.Histogram histogram) = histogram_data histogram
shown_data (shown.Cdf cdf) = cdf_data cdf
shown_data (shown.Stacked stacked) = stacked_data stacked
shown_data (shown.HeatMap heat) = heat_map_data heat
shown_data (shown.TrellisHistogram groups rest) = groups_data (map histogram_data groups) rest
shown_data (shown.TrellisHeatMap groups rest) = groups_data (map heat_map_data groups) rest
shown_data (shown.NextRows next) = next_data next
shown_data (shown.Find find) = find_data find
shown_data (shown.Heavy heavy) = heavy_data heavy
shown_data (shown.CountOf count) = count_data count
shown_data (shown.Quantiles sample) = quantiles_data sample
shown_data (shown.Auto auto) = auto_data auto
shown_data (shown.Frequent frequent) = frequent_data frequent
