use Rattle.std.specs.Arc.{arc_value}
use Rattle.hv_lineage.proofs.TermNodes.{extends-Sample}
use Rattle.hv_lineage.proofs.lineage.Lineage.sample.Goals as goal

-- a sample is one more node
pub grown-requires-clause-longer : goal.grown-requires-clause-longer
grown-requires-clause-longer c =
    let kept = c.lineage.inside in
    rw (← c.lineage.view_is, c.in_ok-term.ensures, c.in_ok-schema.ensures)
    (extends-Sample (record { base = arc_value kept.base; term = kept.term }) kept.schema kept.depth kept.size c.args.seed c.args.threshold
    c.lineage.invariant (record { word = c.ranges.seed.fits; within = c.requires }))
