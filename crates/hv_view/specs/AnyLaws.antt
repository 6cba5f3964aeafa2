-- The laws of any view, by those of its variants.
use Rattle.std.proofs.Common.{ℕ, List, ◌++◌, ◌∙◌}
use Rattle.hv_value.specs.Rows.{Row}
use Rattle.hv_find.specs.FindLaws.{IsFound-swap}
use Rattle.hv_heavy.specs.HeavyLaws.{IsHeavy-swap}
use Rattle.hv_next.specs.NextLaws.{IsNext-swap}
use Rattle.hv_quant.specs.SampleLaws.{IsSample-swap}
use Rattle.hv_range.specs.DistinctLaws.{distinct_of-swap}
use Rattle.hv_range.specs.RangeLaws.{IsRange-swap}
use Rattle.hv_bucket.specs.Places.{buckets_len}
use Rattle.hv_grid.specs.declared.by_axis.ByAxis.{ByAxis}
use Rattle.hv_grid.specs.Grids.{bucket_in}
use Rattle.hv_sketch.specs.GroupLaws.{StandForGroups-swap}
use Rattle.hv_sketch.specs.Tally.{IsTally}
use Rattle.hv_sketch.specs.TallyLaws.{IsTally-swap}
use Rattle.hv_view.specs.declared.any_view.AnyView.{AnyView}
use Rattle.hv_view.specs.declared.any_view.AnyView.TheVariants as view
use Rattle.hv_view.specs.declared.any_summary.AnySummary.{AnySummary}
use Rattle.hv_view.specs.declared.any_summary.AnySummary.TheVariants as summary
use Rattle.hv_view.specs.Stands.{ForEachGroup, StandsForAny}

-- the same of counts for each group
groups-swap : (by : ByAxis) (slots : ℕ) (slot : Row → ℕ) (a b c : List Row) (s : List (List ℕ) × ℕ)
    → ForEachGroup by (IsTally slots slot) (a ++ b ++ c) s → ForEachGroup by (IsTally slots slot) (a ++ c ++ b) s
groups-swap by slots slot a b c s h =
    StandForGroups-swap (bucket_in by.0) (buckets_len by.0.buckets) (IsTally slots slot) (IsTally-swap slots slot) a b c s.0 s.1 h

-- two blocks at the end may change places
pub StandsForAny-swap : (v : AnyView) (a b c : List Row) (s : AnySummary) → StandsForAny v (a ++ b ++ c) s → StandsForAny v (a ++ c ++ b) s
unfolding StandsForAny
StandsForAny-swap (view.Range range) a b c (summary.Range s) h = IsRange-swap range.kind range.col a b c s h
StandsForAny-swap (view.Distinct distinct) a b c (summary.Distinct s) h = h ∙ distinct_of-swap distinct.col distinct.k a b c
StandsForAny-swap (view.Histogram histogram) a b c (summary.Histogram s) h = IsTally-swap _ _ a b c s h
StandsForAny-swap (view.Cdf cdf) a b c (summary.Cdf s) h = IsTally-swap _ _ a b c s h
StandsForAny-swap (view.Stacked stacked) a b c (summary.Stacked s) h = IsTally-swap _ _ a b c s h
StandsForAny-swap (view.HeatMap heat) a b c (summary.HeatMap s) h = IsTally-swap _ _ a b c s h
StandsForAny-swap (view.TrellisHistogram trellis) a b c (summary.TrellisHistogram s) h = groups-swap trellis.groups _ _ a b c s h
StandsForAny-swap (view.TrellisHeatMap trellis) a b c (summary.TrellisHeatMap s) h = groups-swap trellis.groups _ _ a b c s h
StandsForAny-swap (view.NextRows next) a b c (summary.NextRows s) h = IsNext-swap next.order next.after next.k a b c s h
StandsForAny-swap (view.Find find) a b c (summary.Find s) h = IsFound-swap find a b c s h
StandsForAny-swap (view.Heavy heavy) a b c (summary.Heavy s) h = IsHeavy-swap heavy.col heavy.k a b c s h
StandsForAny-swap (view.CountOf count) a b c (summary.CountOf s) h = IsTally-swap _ _ a b c s h
StandsForAny-swap (view.Sample sample) a b c (summary.Sample s) h = IsSample-swap sample.seed sample.k sample.order a b c s h
StandsForAny-swap _ a b c _ h = h
