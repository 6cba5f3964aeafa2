use Rattle.std.specs.Arc.{arc_value}
use Rattle.hv_lineage.proofs.TermNodes.{extends-Filter}
use Rattle.hv_lineage.proofs.lineage.Lineage.filter.Goals as goal

-- a filter is one more node
pub grown-requires-clause-longer : goal.grown-requires-clause-longer
grown-requires-clause-longer c =
    let kept = c.lineage.inside in
    rw (← c.lineage.view_is, c.in_ok-term.ensures, c.in_ok-schema.ensures)
    (extends-Filter (record { base = arc_value kept.base; term = kept.term }) kept.schema kept.depth kept.size c.args.pred
    c.lineage.invariant (rw c.get.ensures at c.in_ok-check_pred.ensures.ok))
