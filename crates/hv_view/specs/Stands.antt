-- What any view takes and what its summaries stand for: one case a view.
use Rattle.std.specs.Prelude.{◌≡◌, ◌<◌, ⊤, true, ℕ, List, length}
use Rattle.hv_value.specs.Orders.{AreInColumns}
use Rattle.hv_value.specs.Rows.{Row}
use Rattle.hv_value.specs.Schema.{Columns}
use Rattle.hv_bucket.specs.Places.{buckets_len, fits_axis}
use Rattle.hv_find.specs.Find.{IsFound}
use Rattle.hv_find.specs.Fits.{FitsFind}
use Rattle.hv_grid.specs.declared.by_axis.ByAxis.{ByAxis}
use Rattle.hv_grid.specs.declared.heat_map.HeatMap.{HeatMap}
use Rattle.hv_grid.specs.Grids.{bucket_in}
use Rattle.hv_grid.specs.Slots.{IsHeatMapCounted, IsStackedCounted}
use Rattle.hv_heavy.specs.CountOf.{IsCount, fits_count}
use Rattle.hv_heavy.specs.Heavy.{IsHeavy}
use Rattle.hv_hist.specs.Slots.{IsCounted}
use Rattle.hv_next.specs.Fits.{FitsNext}
use Rattle.hv_next.specs.Next.{IsNext}
use Rattle.hv_quant.specs.Sample.{IsSample}
use Rattle.hv_sketch.specs.Columns.{IsColumnOf}
use Rattle.hv_sketch.specs.Groups.{StandForGroups}
use Rattle.hv_range.specs.Distinct.{distinct_of}
use Rattle.hv_range.specs.IsRange.{IsRange, TakesNoMemory}
use Rattle.hv_view.specs.declared.any_view.AnyView.{AnyView}
use Rattle.hv_view.specs.declared.any_view.AnyView.TheVariants as view
use Rattle.hv_view.specs.declared.any_summary.AnySummary.{AnySummary}
use Rattle.hv_view.specs.declared.any_summary.AnySummary.TheVariants as summary

-- the columns of both axes are there, each of the kind that its buckets take
abbrev pub FitsHeatMap : Columns → HeatMap → Type 0
FitsHeatMap columns heat = (fits_axis columns heat.x ≡ true) × (fits_axis columns heat.y ≡ true)

-- the columns that the view reads are there, each of the kind that it takes
abbrev pub FitsAny : AnyView → Columns → Type 0
FitsAny (view.Range range) columns = IsColumnOf columns range.col range.kind
FitsAny (view.Distinct distinct) columns = distinct.col < length columns
FitsAny (view.Histogram histogram) columns = fits_axis columns histogram.axis ≡ true
FitsAny (view.Cdf cdf) columns = fits_axis columns cdf.histogram.axis ≡ true
FitsAny (view.Stacked stacked) columns = (fits_axis columns stacked.x ≡ true) × (fits_axis columns stacked.y ≡ true)
FitsAny (view.HeatMap heat) columns = FitsHeatMap columns heat
FitsAny (view.TrellisHistogram trellis) columns = (fits_axis columns trellis.groups.0 ≡ true) × (fits_axis columns trellis.inner.axis ≡ true)
FitsAny (view.TrellisHeatMap trellis) columns = (fits_axis columns trellis.groups.0 ≡ true) × FitsHeatMap columns trellis.inner
FitsAny (view.NextRows next) columns = FitsNext next.order next.after columns
FitsAny (view.Find find) columns = FitsFind find columns
FitsAny (view.Heavy heavy) columns = heavy.col < length columns
FitsAny (view.CountOf count) columns = fits_count columns count.col count.values ≡ true
FitsAny (view.Sample sample) columns = AreInColumns columns sample.order

-- merging the view's summaries takes no memory
abbrev pub MergesAlways : AnyView → Type 0
MergesAlways (view.Range range) = TakesNoMemory range.kind
MergesAlways (view.Distinct distinct) = ⊥
MergesAlways (view.Histogram histogram) = ⊤
MergesAlways (view.Cdf cdf) = ⊤
MergesAlways (view.Stacked stacked) = ⊤
MergesAlways (view.HeatMap heat) = ⊤
MergesAlways (view.TrellisHistogram trellis) = ⊥
MergesAlways (view.TrellisHeatMap trellis) = ⊥
MergesAlways (view.NextRows next) = ⊥
MergesAlways (view.Find find) = ⊥
MergesAlways (view.Heavy heavy) = ⊥
MergesAlways (view.CountOf count) = ⊤
MergesAlways (view.Sample sample) = ⊥

-- the summaries stand for the rows of the groups of an axis, and the rest is how many rows are in none
abbrev pub ForEachGroup : {S : Type 0} → ByAxis → (List Row → S → Type 0) → List Row → List S × ℕ → Type 0
ForEachGroup by stands rows s = StandForGroups (bucket_in by.0) (buckets_len by.0.buckets) stands rows s.0 s.1

-- the summary is of the view's variant, and that of the rows
unfoldable pub StandsForAny : AnyView → List Row → AnySummary → Type 0
StandsForAny (view.Range range) rows (summary.Range s) = IsRange range.kind range.col rows s
StandsForAny (view.Distinct distinct) rows (summary.Distinct s) = s ≡ distinct_of distinct.col distinct.k rows
StandsForAny (view.Histogram histogram) rows (summary.Histogram s) = IsCounted histogram.axis rows s
StandsForAny (view.Cdf cdf) rows (summary.Cdf s) = IsCounted cdf.histogram.axis rows s
StandsForAny (view.Stacked stacked) rows (summary.Stacked s) = IsStackedCounted stacked.x stacked.y rows s
StandsForAny (view.HeatMap heat) rows (summary.HeatMap s) = IsHeatMapCounted heat.x heat.y rows s
StandsForAny (view.TrellisHistogram trellis) rows (summary.TrellisHistogram s) = ForEachGroup trellis.groups (IsCounted trellis.inner.axis) rows s
StandsForAny (view.TrellisHeatMap trellis) rows (summary.TrellisHeatMap s) = ForEachGroup trellis.groups (IsHeatMapCounted trellis.inner.x trellis.inner.y) rows s
StandsForAny (view.NextRows next) rows (summary.NextRows s) = IsNext next.order next.after next.k rows s
StandsForAny (view.Find find) rows (summary.Find s) = IsFound find rows s
StandsForAny (view.Heavy heavy) rows (summary.Heavy s) = IsHeavy heavy.col heavy.k rows s
StandsForAny (view.CountOf count) rows (summary.CountOf s) = IsCount count.col count.values rows s
StandsForAny (view.Sample sample) rows (summary.Sample s) = IsSample sample.seed sample.k sample.order rows s
StandsForAny _ rows _ = ⊥
