use Rattle.std.proofs.Common.{◌≡◌, ◌∙◌, List, sym, subst, ap, refl}
use Rattle.std.specs.Prelude.{MatchOption}
use Rattle.hv_value.specs.Rows.{Row}
use Rattle.hv_member.specs.PartSet.{Parts}
use Rattle.hv_member.specs.Sets.{numbers}
use Rattle.hv_lineage.specs.Flat.{AreRowsIn}
use Rattle.hv_lineage.specs.Lineages.{TermOver, lineage_columns, lineage_parts}
use Rattle.hv_reply.specs.declared.reply.Reply.TheVariants as reply
use Rattle.hv_view.specs.Plans.{OfPlan}
use Rattle.hv_session.specs.Whole.{IsWhole}
use Rattle.hv_session.proofs.last_words.final_of.Goals as goal

pub returns : goal.returns
returns c told =
    let request = c.args.request.now in
    let all = numbers (lineage_parts request.of) in
    let value = c.in_ok-value_of.field-0 in
    let found = subst (λ (of : TermOver). IsWhole told of (λ rows. OfPlan request.plan rows rows value)) c.get-lineage.ensures (c.in_ok-value_of.ensures told) in
    record {
      rows = found.rows;
      whole = subst (λ flat. MatchOption flat (AreRowsIn (lineage_columns request.of) all found.rows) (λ (rows : List Row). found.rows ≡ rows)) (sym found.is) refl;
      value = value;
      is_value = found.holds;
      is =
          ap (λ (parts : Parts). reply.Final request.id parts value) (c.in_ok-all_parts.ensures
          ∙ ap (λ n. record { size = n; parts = numbers n }) (c.parts.ensures ∙ ap lineage_parts c.get-lineage.ensures));
    }
