-- What a view and a plan write into a hasher, as keys of a map: functions of the value, so that the same ones write the same.
use Rattle.std.specs.Prelude.{ℕ, List, ◌++◌}
use Rattle.std.specs.Hash as fed
use Rattle.hv_bucket.specs.Hashes.{axis_writes}
use Rattle.hv_find.specs.Hashes.{find_writes}
use Rattle.hv_heavy.specs.Hashes.{count_writes}
use Rattle.hv_next.specs.Hashes.{next_writes}
use Rattle.hv_quant.specs.Hashes.{sample_writes}
use Rattle.hv_view.specs.declared.any_view.AnyView.{AnyView}
use Rattle.hv_view.specs.declared.any_view.AnyView.TheVariants as view
use Rattle.hv_view.specs.declared.plan.Plan.{Plan}
use Rattle.hv_view.specs.declared.plan.Plan.TheVariants as plan

-- the place of the view's variant, and then what it holds: columns, numbers of values, axes, orders, keys, tests, seeds
abbrev pub view_writes : AnyView → List (List ℕ)
view_writes (view.Range range) = fed.u8 0 ++ fed.u32 range.col
view_writes (view.Distinct distinct) = fed.u8 1 ++ fed.u32 distinct.col ++ fed.u32 distinct.k
view_writes (view.Histogram histogram) = fed.u8 2 ++ axis_writes histogram.axis
view_writes (view.Cdf cdf) = fed.u8 3 ++ axis_writes cdf.histogram.axis
view_writes (view.Stacked stacked) = fed.u8 4 ++ axis_writes stacked.x ++ axis_writes stacked.y
view_writes (view.HeatMap heat) = fed.u8 5 ++ axis_writes heat.x ++ axis_writes heat.y
view_writes (view.TrellisHistogram trellis) = fed.u8 6 ++ axis_writes trellis.groups.0 ++ axis_writes trellis.inner.axis
view_writes (view.TrellisHeatMap trellis) = fed.u8 7 ++ axis_writes trellis.groups.0 ++ axis_writes trellis.inner.x ++ axis_writes trellis.inner.y
view_writes (view.NextRows next) = fed.u8 8 ++ next_writes next
view_writes (view.Find find) = fed.u8 9 ++ find_writes find
view_writes (view.Heavy heavy) = fed.u8 10 ++ fed.u32 heavy.col ++ fed.u32 heavy.k
view_writes (view.CountOf count) = fed.u8 11 ++ count_writes count
view_writes (view.Sample sample) = fed.u8 12 ++ sample_writes sample

-- the place of the plan's variant, and then what its view writes, or its column and its number
abbrev pub plan_writes : Plan → List (List ℕ)
plan_writes (plan.One own) = fed.u8 0 ++ view_writes own
plan_writes (plan.AutoHistogram col n) = fed.u8 1 ++ fed.u32 col ++ fed.u32 n
plan_writes (plan.Frequent col k) = fed.u8 2 ++ fed.u32 col ++ fed.u32 k
