use Rattle.std.proofs.Common.{◌≡◌, ◌+◌, ◌*◌, ◌∙◌, add-zero, ap, get_or}
use Rattle.hv_bucket.specs.Places.{buckets_len}
use Rattle.hv_grid.proofs.GridCounts.{column_read, grid_read, stacked-is}
use Rattle.hv_grid.proofs.stacked.Stacked.value.Goals as goal

-- the parts are read from the summary's counts
pub returns : goal.returns
returns c =
    λ rows h.
    let view = c.args.self.now in
    let counts = c.args.s.now in
    let lent = c.as_slice-counts.ensures in
    let nx = c.len-rows.ensures.value in
    let ny = c.len-columns.ensures.value in
    let end : c.grid_slot-placed.result ≡ buckets_len view.x.buckets * (buckets_len view.y.buckets + 1) =
    c.grid_slot-placed.ensures.value
    ∙ ap (λ n. n * (c.len-columns.result + 1) + 0) nx
    ∙ ap (λ n. buckets_len view.x.buckets * (n + 1) + 0) ny
    ∙ add-zero (buckets_len view.x.buckets * (buckets_len view.y.buckets + 1)) in
    stacked-is view.x view.y rows counts _ _ _ _ h c.len-rows.ensures.sound c.len-columns.ensures.sound
    (c.in_ok-grid_of.ensures
    ∙ ap (λ l. grid_read l c.len-rows.result (c.len-columns.result + 1) c.len-columns.result) lent
    ∙ ap (λ n. grid_read counts n (c.len-columns.result + 1) c.len-columns.result) nx
    ∙ ap (λ n. grid_read counts (buckets_len view.x.buckets) (n + 1) n) ny)
    (c.count_at.ensures ∙ ap (λ l. get_or l (c.grid_slot-placed.result + 1) 0) lent ∙ ap (λ s. get_or counts (s + 1) 0) end)
    (c.in_ok-column_counts.ensures
    ∙ ap (λ l. column_read l c.len-rows.result (c.len-columns.result + 1) c.len-columns.result) lent
    ∙ ap (λ n. column_read counts n (c.len-columns.result + 1) c.len-columns.result) nx
    ∙ ap (λ n. column_read counts (buckets_len view.x.buckets) (n + 1) n) ny)
    (c.count_at-2.ensures ∙ ap (λ l. get_or l c.grid_slot-placed.result 0) lent ∙ ap (λ s. get_or counts s 0) end)
