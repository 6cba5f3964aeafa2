use Rattle.std.proofs.Common.{◌∙◌, ◌<◌, refl, length, rules}
use Rattle.std.proofs.lemmas.Option.{slice_get_read}
use Rattle.hv_view.proofs.TrellisLemmas.{one-more}
use Rattle.hv_view.proofs.trellis.values_of_groups.Goals as goal

-- src/trellis.rt:35:5
pub loop-summary-preserved : goal.loop-summary-preserved
loop-summary-preserved g c group count rows all =
    let within : c.loop-summary.summary-index < length c.args.summaries.now = search rules in
    c.in_ok-push.ensures.added
    ∙ one-more (g.V.Vizketch.stands c.args.view.now) (g.V.Inner.value_of c.args.view.now) group count rows c.args.summaries.now
    c.loop-summary.summary-index c.summary-item.result _ _ all
    (slice_get_read c.args.summaries.now _ c.loop-summary.summary-index c.summary-item.result refl within c.summary-item.is)
    c.in_ok-shown.ensures (c.loop-summary.invariant group count rows all)
