use Rattle.std.specs.Arc.{arc_value}
use Rattle.serde_json.specs.View.{view}
use Rattle.hv_message.proofs.TermLemmas.{over_read}
use Rattle.hv_message.specs.Terms.{sample_of}
use Rattle.hv_message.proofs.terms.sample_over.Goals as goal

pub returns : goal.returns
returns c =
    over_read sample_of (view c.args.value.now) (arc_value c.args.lineage.now) c.in_ok-sample_of.field-0 c.over.result c.in_ok-sample_of.ensures.value c.over.ensures
