use Rattle.std.proofs.Common.{ap, take, get_or, ◌+◌, ◌∙◌}
use Rattle.hv_hist.proofs.SlotCounts.{histogram-is}
use Rattle.hv_hist.proofs.histogram.Histogram.value.Goals as goal

-- the parts are read from the summary's counts
pub returns : goal.returns
returns c =
    λ rows h.
    let buckets = c.len-buckets.ensures.value in
    histogram-is c.args.self.now.axis rows c.args.s.now _ _ _ h c.len-buckets.ensures.sound
    (c.in_ok-first_counts.ensures ∙ ap (take c.len-buckets.result) c.as_slice-counts.ensures ∙ ap (λ n. take n c.args.s.now) buckets)
    (c.count_at.ensures ∙ ap (λ l. get_or l (c.len-buckets.result + 1) 0) c.as_slice-counts.ensures ∙ ap (λ n. get_or c.args.s.now (n + 1) 0) buckets)
    (c.count_at-2.ensures ∙ ap (λ l. get_or l c.len-buckets.result 0) c.as_slice-counts.ensures ∙ ap (λ n. get_or c.args.s.now n 0) buckets)
