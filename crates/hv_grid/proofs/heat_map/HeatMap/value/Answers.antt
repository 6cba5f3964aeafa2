use Rattle.std.proofs.Common.{◌+◌, ◌*◌, ◌∙◌, add-zero, ap, get_or}
use Rattle.hv_bucket.specs.Places.{buckets_len}
use Rattle.hv_grid.proofs.GridCounts.{grid_read, heat_map-is}
use Rattle.hv_grid.proofs.heat_map.HeatMap.value.Goals as goal

-- the parts are read from the summary's counts
pub returns : goal.returns
returns c =
    λ rows h.
    let view = c.args.self.now in
    let counts = c.args.s.now in
    let lent = c.as_slice-counts.ensures in
    let nx = c.len-rows.ensures.value in
    let ny = c.len-columns.ensures.value in
    heat_map-is view.x view.y rows counts _ _ h c.len-rows.ensures.sound c.len-columns.ensures.sound
    (c.in_ok-grid_of.ensures
    ∙ ap (λ l. grid_read l c.len-rows.result c.len-columns.result c.len-columns.result) lent
    ∙ ap (λ n. grid_read counts n c.len-columns.result c.len-columns.result) nx
    ∙ ap (λ n. grid_read counts (buckets_len view.x.buckets) n n) ny)
    (c.count_at.ensures
    ∙ ap (λ l. get_or l c.grid_slot.result 0) lent
    ∙ ap (λ s. get_or counts s 0) c.grid_slot.ensures.value
    ∙ ap (λ n. get_or counts (n * c.len-columns.result + 0) 0) nx
    ∙ ap (λ n. get_or counts (buckets_len view.x.buckets * n + 0) 0) ny
    ∙ ap (λ s. get_or counts s 0) (add-zero (buckets_len view.x.buckets * buckets_len view.y.buckets)))
