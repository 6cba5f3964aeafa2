use Rattle.std.proofs.Common.{◌+◌, ◌*◌, ◌<◌, ◌∙◌, refl, ap, arith}
use Rattle.hv_bucket.specs.Places.{buckets_len}
use Rattle.hv_grid.proofs.GridLoops.{in-grid}
use Rattle.hv_grid.proofs.heat_map.HeatMapSorter.slot.Goals as goal

-- a slot of the grid is before the last one
pub returns-in-In-bucket_of-clause-within : goal.returns-in-In-bucket_of-clause-within
returns-in-In-bucket_of-clause-within g c =
    let view = c.args.self.now in
    let first : c.in-In.a < buckets_len view.x.buckets = c.in-In.ensures.within c.in-In.a refl in
    let second : c.in-In-bucket_of.b < buckets_len view.y.buckets = c.in-In-bucket_of.ensures.within c.in-In-bucket_of.b refl in
    omega (
      arith,
      c.grid_slot.ensures.value ∙ ap (λ n. c.in-In.a * n + c.in-In-bucket_of.b) c.len-columns.ensures.value,
      in-grid c.in-In.a c.in-In-bucket_of.b _ _ first second,
    )
