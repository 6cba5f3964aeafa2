use Rattle.std.proofs.Common.{refl, subst}
use Rattle.hv_lineage.specs.Lineages.{lineage_columns}
use Rattle.hv_view.specs.Plans.{IsFirstView}
use Rattle.hv_session.proofs.ValueLemmas.{first-value}
use Rattle.hv_session.proofs.last_words.first_of.Goals as goal

pub returns : goal.returns
returns c = λ told.
    let plan = c.args.plan.now in
    let lineage = c.args.lineage.now in
    let whole = c.in_ok-first.ensures told in
    let begins = subst (λ columns. IsFirstView plan columns c.in_ok-view.view) c.schema.ensures.value c.in_ok-view.ensures.value in
    record {
      rows = whole.rows;
      is = whole.is;
      under = whole.under;
      holds = first-value plan told lineage (lineage_columns lineage) c.in_ok-view.view c.in_ok-first.first refl begins whole;
    }
