use Rattle.hv_lineage.specs.Sizes.{term_depth}
use Rattle.hv_made.proofs.made.+applied.Given as goal

abbrev pub decreases-applied : goal.decreases-applied
decreases-applied l = term_depth l.term.now
