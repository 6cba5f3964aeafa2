use Rattle.std.proofs.Common.{rules}
use Rattle.hv_view.specs.Stands.{StandsForAny}
use Rattle.hv_view.proofs.any_view.AnyViewVizketch.copy.Goals.{in-Range-Range+in_ok-copy-in-Range-Range, in-Distinct-Distinct+in_ok-copy-in-Distinct-Distinct, in-Histogram-Histogram+in_ok-copy-in-Histogram-Histogram, in-Cdf-Cdf+in_ok-copy-in-Cdf-Cdf, in-Stacked-Stacked+in_ok-copy-in-Stacked-Stacked, in-HeatMap-HeatMap+in_ok-copy-in-HeatMap-HeatMap, in-TrellisHistogram-TrellisHistogram+in_ok-copy-in-TrellisHistogram-TrellisHistogram, in-TrellisHeatMap-TrellisHeatMap+in_ok-copy-in-TrellisHeatMap-TrellisHeatMap, in-NextRows-NextRows+in_ok-copy-in-NextRows-NextRows, in-Find-Find+in_ok-copy-in-Find-Find, in-Heavy-Heavy+in_ok-copy-in-Heavy-Heavy, in-CountOf-CountOf+in_ok-copy-in-CountOf-CountOf, in-Sample-Sample+in_ok-copy-in-Sample-Sample}
use Rattle.hv_view.proofs.any_view.AnyViewVizketch.copy.Goals as goal

-- src/any_view.rt
pub returns : goal.returns
unfolding StandsForAny
returns c rows stands = elim c.match-self.branch [
  | in-Range-Range+in_ok-copy-in-Range-Range w ↦ search rules
  | in-Distinct-Distinct+in_ok-copy-in-Distinct-Distinct w ↦ search rules
  | in-Histogram-Histogram+in_ok-copy-in-Histogram-Histogram w ↦ search rules
  | in-Cdf-Cdf+in_ok-copy-in-Cdf-Cdf w ↦ search rules
  | in-Stacked-Stacked+in_ok-copy-in-Stacked-Stacked w ↦ search rules
  | in-HeatMap-HeatMap+in_ok-copy-in-HeatMap-HeatMap w ↦ search rules
  | in-TrellisHistogram-TrellisHistogram+in_ok-copy-in-TrellisHistogram-TrellisHistogram w ↦ rw (w.in-TrellisHistogram-TrellisHistogram.is-0, w.result-is) (w.in_ok-copy-in-TrellisHistogram-TrellisHistogram.ensures rows (rw (w.in-TrellisHistogram-TrellisHistogram.is-0, w.in-TrellisHistogram-TrellisHistogram.is-1) at stands))
  | in-TrellisHeatMap-TrellisHeatMap+in_ok-copy-in-TrellisHeatMap-TrellisHeatMap w ↦ rw (w.in-TrellisHeatMap-TrellisHeatMap.is-0, w.result-is) (w.in_ok-copy-in-TrellisHeatMap-TrellisHeatMap.ensures rows (rw (w.in-TrellisHeatMap-TrellisHeatMap.is-0, w.in-TrellisHeatMap-TrellisHeatMap.is-1) at stands))
  | in-NextRows-NextRows+in_ok-copy-in-NextRows-NextRows w ↦ rw (w.in-NextRows-NextRows.is-0, w.result-is) (w.in_ok-copy-in-NextRows-NextRows.ensures rows (rw (w.in-NextRows-NextRows.is-0, w.in-NextRows-NextRows.is-1) at stands))
  | in-Find-Find+in_ok-copy-in-Find-Find w ↦ rw (w.in-Find-Find.is-0, w.result-is) (w.in_ok-copy-in-Find-Find.ensures rows (rw (w.in-Find-Find.is-0, w.in-Find-Find.is-1) at stands))
  | in-Heavy-Heavy+in_ok-copy-in-Heavy-Heavy w ↦ rw (w.in-Heavy-Heavy.is-0, w.result-is) (w.in_ok-copy-in-Heavy-Heavy.ensures rows (rw (w.in-Heavy-Heavy.is-0, w.in-Heavy-Heavy.is-1) at stands))
  | in-CountOf-CountOf+in_ok-copy-in-CountOf-CountOf w ↦ rw (w.in-CountOf-CountOf.is-0, w.result-is) (w.in_ok-copy-in-CountOf-CountOf.ensures rows (rw (w.in-CountOf-CountOf.is-0, w.in-CountOf-CountOf.is-1) at stands))
  | in-Sample-Sample+in_ok-copy-in-Sample-Sample w ↦ rw (w.in-Sample-Sample.is-0, w.result-is) (w.in_ok-copy-in-Sample-Sample.ensures rows (rw (w.in-Sample-Sample.is-0, w.in-Sample-Sample.is-1) at stands))
]
