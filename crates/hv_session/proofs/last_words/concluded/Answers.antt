use Rattle.std.proofs.Common.{subst}
use Rattle.hv_lineage.specs.Lineages.{lineage_columns}
use Rattle.hv_view.specs.Plans.{OfPlan}
use Rattle.hv_session.proofs.ValueLemmas.{same-rows, untold}
use Rattle.hv_session.proofs.last_words.concluded.Goals as goal

-- both values are of the rows of the whole table
pub conclude-requires : goal.conclude-requires
conclude-requires c =
    let whole = c.requires.first untold in
    let more = c.requires.second untold in
    (lineage_columns c.args.lineage.now, whole.rows, more.rows, c.requires.fit, whole.holds, more.holds)

pub returns : goal.returns
returns c = λ told.
    let plan = c.args.plan.now in
    let lineage = c.args.lineage.now in
    let whole = c.requires.first told in
    let more = c.requires.second told in
    let value = c.in_ok-value.ensures.value (lineage_columns lineage) whole.rows more.rows c.requires.fit whole.holds more.holds in
    record {
      rows = more.rows;
      is = more.is;
      under = more.under;
      holds = subst (λ rows. OfPlan plan rows more.rows c.in_ok-value.value) (same-rows told lineage _ _ whole more) value;
    }
