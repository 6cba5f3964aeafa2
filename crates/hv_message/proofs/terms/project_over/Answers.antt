use Rattle.std.specs.Arc.{arc_value}
use Rattle.serde_json.specs.View.{view}
use Rattle.hv_message.proofs.TermLemmas.{over_read}
use Rattle.hv_message.specs.Terms.{project_of}
use Rattle.hv_message.proofs.terms.project_over.Goals as goal

pub returns : goal.returns
returns c =
    over_read project_of (view c.args.value.now) (arc_value c.args.lineage.now) c.in_ok-project_of.field-0 c.over.result c.in_ok-project_of.ensures.value c.over.ensures
