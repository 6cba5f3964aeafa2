use Rattle.std.proofs.Common.{rules, ◌∙◌, ap}
use Rattle.hv_bucket.specs.Places.{buckets_len}
use Rattle.hv_hist.specs.Histogram.{histogram_of}
use Rattle.hv_hist.specs.Slots.{IsCounted}
use Rattle.hv_grid.specs.Grids.{bucket_in, heat_map_of}
use Rattle.hv_grid.specs.Slots.{IsHeatMapCounted}
use Rattle.hv_find.specs.Find.{IsFound}
use Rattle.hv_heavy.specs.Heavy.{IsHeavy}
use Rattle.hv_next.specs.Next.{IsNext}
use Rattle.hv_quant.specs.Sample.{IsSample}
use Rattle.hv_view.specs.declared.shown.Shown.TheVariants as shown
use Rattle.hv_view.specs.Stands.{ForEachGroup, StandsForAny}
use Rattle.hv_view.specs.View.{of_each_bucket}
use Rattle.hv_view.proofs.shown.finish.Goals.{in-Range-Range+in_ok-of-in-Range-Range+in_ok-of-in-Range-Range-2, in-Distinct-Distinct+in_ok-copied_cells-in-Distinct-Distinct, in-Histogram-Histogram+in_ok-value-in-Histogram-Histogram, in-Cdf-Cdf+in_ok-value-in-Cdf-Cdf, in-Stacked-Stacked+in_ok-value-in-Stacked-Stacked, in-HeatMap-HeatMap+in_ok-value-in-HeatMap-HeatMap, in-TrellisHistogram-TrellisHistogram+in_ok-values_of_groups-in-TrellisHistogram-TrellisHistogram, in-TrellisHeatMap-TrellisHeatMap+in_ok-values_of_groups-in-TrellisHeatMap-TrellisHeatMap, in-NextRows-NextRows+in_ok-copy-in-NextRows-NextRows, in-Find-Find+in_ok-copy-in-Find-Find, in-Heavy-Heavy+in_ok-copy-in-Heavy-Heavy, in-CountOf-CountOf+in_ok-value-in-CountOf-CountOf, in-Sample-Sample+in_ok-value-in-Sample-Sample, in_default, in_default-via-in-Range+in_default, in_default-via-in-Distinct+in_default, in_default-via-in-Histogram+in_default, in_default-via-in-Cdf+in_default, in_default-via-in-Stacked+in_default, in_default-via-in-HeatMap+in_default, in_default-via-in-TrellisHistogram+in_default, in_default-via-in-TrellisHeatMap+in_default, in_default-via-in-NextRows+in_default, in_default-via-in-Find+in_default, in_default-via-in-Heavy+in_default, in_default-via-in-CountOf+in_default, in_default-via-in-Sample+in_default}
use Rattle.hv_view.proofs.shown.finish.Goals as goal

-- src/shown.rt
pub returns : goal.returns
unfolding StandsForAny
returns c rows stands = elim c.match-view.branch [
  | in-Range-Range+in_ok-of-in-Range-Range+in_ok-of-in-Range-Range-2 w ↦ search rules
  | in-Distinct-Distinct+in_ok-copied_cells-in-Distinct-Distinct w ↦ search rules
  | in-Histogram-Histogram+in_ok-value-in-Histogram-Histogram w ↦ search rules
  | in-Cdf-Cdf+in_ok-value-in-Cdf-Cdf w ↦ search rules
  | in-Stacked-Stacked+in_ok-value-in-Stacked-Stacked w ↦ search rules
  | in-HeatMap-HeatMap+in_ok-value-in-HeatMap-HeatMap w ↦ search rules
  | in-TrellisHistogram-TrellisHistogram+in_ok-values_of_groups-in-TrellisHistogram-TrellisHistogram w ↦
      let there : ForEachGroup w.in-TrellisHistogram-TrellisHistogram.view.groups (IsCounted w.in-TrellisHistogram-TrellisHistogram.view.inner.axis) rows w.in-TrellisHistogram-TrellisHistogram.s = rw (w.in-TrellisHistogram-TrellisHistogram.is-0, w.in-TrellisHistogram-TrellisHistogram.is-1) at stands in
      let by = w.in-TrellisHistogram-TrellisHistogram.view.groups.0 in
      rw (w.in-TrellisHistogram-TrellisHistogram.is-0, w.result-is)
      (ap (λ gs. shown.TrellisHistogram gs w.rest.result) (w.in_ok-values_of_groups-in-TrellisHistogram-TrellisHistogram.ensures (bucket_in by) (buckets_len by.buckets) rows (rw w.groups.ensures there.each))
      ∙ ap (λ n. shown.TrellisHistogram (of_each_bucket w.in-TrellisHistogram-TrellisHistogram.view.groups (histogram_of w.in-TrellisHistogram-TrellisHistogram.view.inner.axis) rows) n) (w.rest.ensures ∙ there.others))
  | in-TrellisHeatMap-TrellisHeatMap+in_ok-values_of_groups-in-TrellisHeatMap-TrellisHeatMap w ↦
      let there : ForEachGroup w.in-TrellisHeatMap-TrellisHeatMap.view.groups (IsHeatMapCounted w.in-TrellisHeatMap-TrellisHeatMap.view.inner.x w.in-TrellisHeatMap-TrellisHeatMap.view.inner.y) rows w.in-TrellisHeatMap-TrellisHeatMap.s = rw (w.in-TrellisHeatMap-TrellisHeatMap.is-0, w.in-TrellisHeatMap-TrellisHeatMap.is-1) at stands in
      let by = w.in-TrellisHeatMap-TrellisHeatMap.view.groups.0 in
      rw (w.in-TrellisHeatMap-TrellisHeatMap.is-0, w.result-is)
      (ap (λ gs. shown.TrellisHeatMap gs w.rest-in-TrellisHeatMap-TrellisHeatMap.result) (w.in_ok-values_of_groups-in-TrellisHeatMap-TrellisHeatMap.ensures (bucket_in by) (buckets_len by.buckets) rows (rw w.groups-in-TrellisHeatMap-TrellisHeatMap.ensures there.each))
      ∙ ap (λ n. shown.TrellisHeatMap (of_each_bucket w.in-TrellisHeatMap-TrellisHeatMap.view.groups (heat_map_of w.in-TrellisHeatMap-TrellisHeatMap.view.inner.x w.in-TrellisHeatMap-TrellisHeatMap.view.inner.y) rows) n) (w.rest-in-TrellisHeatMap-TrellisHeatMap.ensures ∙ there.others))
  | in-NextRows-NextRows+in_ok-copy-in-NextRows-NextRows w ↦
      let there : IsNext w.in-NextRows-NextRows.field-0-0.order w.in-NextRows-NextRows.field-0-0.after w.in-NextRows-NextRows.field-0-0.k rows w.in-NextRows-NextRows.s = rw (w.in-NextRows-NextRows.is-0, w.in-NextRows-NextRows.is-1) at stands in
      rw (w.in-NextRows-NextRows.is-0, w.result-is) (ap shown.NextRows (w.in_ok-copy-in-NextRows-NextRows.ensures ∙ there.is))
  | in-Find-Find+in_ok-copy-in-Find-Find w ↦
      let there : IsFound w.in-Find-Find.field-0-0 rows w.in-Find-Find.s = rw (w.in-Find-Find.is-0, w.in-Find-Find.is-1) at stands in
      rw (w.in-Find-Find.is-0, w.result-is) (ap shown.Find (w.in_ok-copy-in-Find-Find.ensures ∙ there.is))
  | in-Heavy-Heavy+in_ok-copy-in-Heavy-Heavy w ↦
      let there : IsHeavy w.in-Heavy-Heavy.field-0-0.col w.in-Heavy-Heavy.field-0-0.k rows w.in-Heavy-Heavy.s = rw (w.in-Heavy-Heavy.is-0, w.in-Heavy-Heavy.is-1) at stands in
      rw (w.in-Heavy-Heavy.is-0, w.result-is, w.in_ok-copy-in-Heavy-Heavy.ensures) there
  | in-CountOf-CountOf+in_ok-value-in-CountOf-CountOf w ↦ search rules
  | in-Sample-Sample+in_ok-value-in-Sample-Sample w ↦
      let there : IsSample w.in-Sample-Sample.view.seed w.in-Sample-Sample.view.k w.in-Sample-Sample.view.order rows w.in-Sample-Sample.s = rw (w.in-Sample-Sample.is-0, w.in-Sample-Sample.is-1) at stands in
      rw (w.in-Sample-Sample.is-0, w.result-is) (ap shown.Quantiles (w.in_ok-value-in-Sample-Sample.ensures rows there))
  | in_default w ↦ elim w.in_default.branch [
    | in_default-via-in-Range+in_default w' ↦ search rules
    | in_default-via-in-Distinct+in_default w' ↦ search rules
    | in_default-via-in-Histogram+in_default w' ↦ search rules
    | in_default-via-in-Cdf+in_default w' ↦ search rules
    | in_default-via-in-Stacked+in_default w' ↦ search rules
    | in_default-via-in-HeatMap+in_default w' ↦ search rules
    | in_default-via-in-TrellisHistogram+in_default w' ↦ search rules
    | in_default-via-in-TrellisHeatMap+in_default w' ↦ search rules
    | in_default-via-in-NextRows+in_default w' ↦ search rules
    | in_default-via-in-Find+in_default w' ↦ search rules
    | in_default-via-in-Heavy+in_default w' ↦ search rules
    | in_default-via-in-CountOf+in_default w' ↦ search rules
    | in_default-via-in-Sample+in_default w' ↦ search rules
  ]
]
