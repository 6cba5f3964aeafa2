use Rattle.std.proofs.Common.{◌≡◌, None}
use Rattle.std.specs.Arc.{arc_value}
use Rattle.hv_lineage.specs.Refusals.{choice_refusal}
use Rattle.hv_lineage.proofs.TermNodes.{extends-Project}
use Rattle.hv_lineage.proofs.lineage.Lineage.project.Goals as goal

-- a choice of columns is one more node
pub grown-requires-clause-longer : goal.grown-requires-clause-longer
grown-requires-clause-longer c =
    let kept = c.lineage.inside in
    let fit : choice_refusal kept.schema c.args.cols.items ≡ None = rw (c.get.ensures, c.deref.ensures.value) at c.in_ok-schema.ensures.fit in
    rw (← c.lineage.view_is, c.in_ok-term.ensures, c.in_ok-schema-2.ensures, c.in_ok-schema.ensures.ok, c.get.ensures, c.deref.ensures.value)
    (extends-Project (record { base = arc_value kept.base; term = kept.term }) kept.schema kept.depth kept.size c.args.cols.items c.lineage.invariant fit)
