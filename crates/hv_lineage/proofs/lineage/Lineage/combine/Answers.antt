use Rattle.std.proofs.Common.{◌≡◌, ◌∙◌, None, ap, sym}
use Rattle.std.specs.Arc.{arc_value}
use Rattle.hv_lineage.specs.Lineages.{TermOver}
use Rattle.hv_lineage.specs.Refusals.{how_refusal}
use Rattle.hv_lineage.proofs.TermNodes.{extends-Combine}
use Rattle.hv_lineage.proofs.lineage.Lineage.combine.Goals as goal

-- two lineages of one base under one more node
pub joined-requires-clause-longer : goal.joined-requires-clause-longer
joined-requires-clause-longer c =
    let first = c.first.inside in
    let second = c.second.inside in
    let same : arc_value first.base ≡ arc_value second.base =
    ap (λ (l : TermOver). l.base) c.first.view_is ∙ c.in_ok-with_base_of.ensures.ok.1 ∙ ap (λ (l : TermOver). l.base) (sym c.second.view_is) in
    let fit : how_refusal c.args.how first.schema second.schema ≡ None = c.in_ok-schema.ensures.fit in
    rw (← c.first.view_is, ← c.second.view_is, c.in_ok-term.ensures, c.in_ok-schema.ensures.ok)
    (extends-Combine c.args.how (record { base = arc_value first.base; term = first.term }) (record { base = arc_value second.base; term = second.term })
    first.schema second.schema first.depth first.size second.depth second.size c.first.invariant c.second.invariant same fit)
