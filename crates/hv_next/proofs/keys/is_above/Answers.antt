use Rattle.std.proofs.Common.{length, ap, ◌∙◌}
use Rattle.hv_next.proofs.FitFacts.{after_length}
use Rattle.hv_next.proofs.keys.is_above.Goals as goal

pub compare_row-requires-clause-one_each : goal.compare_row-requires-clause-one_each
compare_row-requires-clause-one_each g c = ap length c.as_slice.ensures ∙ after_length _ c.args.order.now _ _ c.in-Some.is c.requires.fit
