-- The value of a view over a list of rows: one case a view. This project's own rule.
use Rattle.std.specs.Prelude.{◌≡◌, ℕ, ℤ, List, map, Option, Some, None}
use Rattle.std.specs.List.{range_with_len}
use Rattle.hv_value.specs.Rows.{Row}
use Rattle.hv_value.specs.declared.cell.Kind.{Kind}
use Rattle.hv_value.specs.declared.cell.Kind.TheVariants as kind
use Rattle.hv_bucket.specs.Places.{buckets_len}
use Rattle.hv_find.specs.Find.{find_of}
use Rattle.hv_grid.specs.declared.by_axis.ByAxis.{ByAxis}
use Rattle.hv_grid.specs.Grids.{bucket_in, heat_map_of, stacked_of}
use Rattle.hv_sketch.specs.Groups.{group_rows, ungrouped}
use Rattle.hv_heavy.specs.CountOf.{counts_of}
use Rattle.hv_heavy.specs.Heavy.{IsHeavy}
use Rattle.hv_hist.specs.Histogram.{cdf_of, histogram_of}
use Rattle.hv_next.specs.Next.{next_of}
use Rattle.hv_quant.specs.Quantiles.{value_over}
use Rattle.hv_range.specs.Distinct.{distinct_of}
use Rattle.hv_range.specs.Range.{range_of}
use Rattle.hv_range.specs.declared.summary.RangeSummary.{RangeSummary}
use Rattle.hv_range.specs.declared.distinct_summary.DistinctSummary.{DistinctSummary}
use Rattle.hv_view.specs.declared.any_view.AnyView.{AnyView}
use Rattle.hv_view.specs.declared.any_view.AnyView.TheVariants as view
use Rattle.hv_view.specs.declared.shown.Shown.{Shown}
use Rattle.hv_view.specs.declared.shown.Shown.TheVariants as shown

-- a sum is shown for whole numbers alone
abbrev pub sum_shown : Kind → ℤ → Option ℤ
sum_shown kind.Int sum = Some sum
sum_shown kind.Date sum = None
sum_shown kind.Text sum = None

-- a range as it is shown for a column of a kind: count, greatest, least, missing, sum
abbrev pub range_shown : Kind → RangeSummary → Shown
range_shown k range = shown.Range range.count range.greatest range.least range.missing (sum_shown k range.sum)

-- distinct values as they are shown: whether there are more, and the values
abbrev pub distinct_shown : DistinctSummary → Shown
distinct_shown distinct = shown.Distinct distinct.more distinct.values

-- what is made of each group's rows
abbrev pub of_each_group : {X : Type 0} → (Row → Option ℕ) → ℕ → (List Row → X) → List Row → List X
of_each_group group count value rows = map (λ g. value (group_rows group g rows)) (range_with_len 0 count)

-- what is made of the rows of each bucket of an axis
abbrev pub of_each_bucket : {X : Type 0} → ByAxis → (List Row → X) → List Row → List X
of_each_bucket by value rows = of_each_group (bucket_in by.0) (buckets_len by.0.buckets) value rows

-- how many rows are in no bucket of an axis
abbrev pub in_no_bucket : ByAxis → List Row → ℕ
in_no_bucket by rows = ungrouped (bucket_in by.0) rows

-- the value is heavy hitters of the column over the rows: a relation, since many lists of them keep the bounds
abbrev pub AreHeavyHitters : ℕ → ℕ → List Row → Shown → Type 0
AreHeavyHitters col k rows (shown.Heavy found) = IsHeavy col k rows found
AreHeavyHitters col k rows _ = ⊥

-- the value is the view's over the rows
abbrev pub IsView : AnyView → List Row → Shown → Type 0
IsView (view.Range range) rows value = value ≡ range_shown range.kind (range_of range.col rows)
IsView (view.Distinct distinct) rows value = value ≡ distinct_shown (distinct_of distinct.col distinct.k rows)
IsView (view.Histogram histogram) rows value = value ≡ shown.Histogram (histogram_of histogram.axis rows)
IsView (view.Cdf cdf) rows value = value ≡ shown.Cdf (cdf_of cdf.histogram.axis rows)
IsView (view.Stacked stacked) rows value = value ≡ shown.Stacked (stacked_of stacked.x stacked.y rows)
IsView (view.HeatMap heat) rows value = value ≡ shown.HeatMap (heat_map_of heat.x heat.y rows)
IsView (view.TrellisHistogram trellis) rows value = value ≡ shown.TrellisHistogram (of_each_bucket trellis.groups (histogram_of trellis.inner.axis) rows) (in_no_bucket trellis.groups rows)
IsView (view.TrellisHeatMap trellis) rows value = value ≡ shown.TrellisHeatMap (of_each_bucket trellis.groups (heat_map_of trellis.inner.x trellis.inner.y) rows) (in_no_bucket trellis.groups rows)
IsView (view.NextRows next) rows value = value ≡ shown.NextRows (next_of next.order next.after next.k rows)
IsView (view.Find find) rows value = value ≡ shown.Find (find_of find rows)
IsView (view.Heavy heavy) rows value = AreHeavyHitters heavy.col heavy.k rows value
IsView (view.CountOf count) rows value = value ≡ shown.CountOf (counts_of count.col count.values rows)
IsView (view.Sample sample) rows value = value ≡ shown.Quantiles (value_over sample rows)
