use Rattle.std.proofs.Common.{sym}
use Rattle.hv_sketch.specs.ColumnCells.{cells_in}
use Rattle.hv_range.proofs.DistinctFacts.{distinct-rises, distinct_of-append}
use Rattle.hv_range.proofs.distinct.DistinctVizketch.merge_into.Goals as goal

pub sum-requires-clause-left : goal.sum-requires-clause-left
sum-requires-clause-left c = distinct-rises c.args.self.now.k (cells_in c.args.self.now.col c.requires.0) _ c.requires.2

pub sum-requires-clause-right : goal.sum-requires-clause-right
sum-requires-clause-right c = distinct-rises c.args.self.now.k (cells_in c.args.self.now.col c.requires.1) _ c.requires.3

pub returns-clause-ok : goal.returns-clause-ok
returns-clause-ok c = λ a b first second can.
    let h = c.in_ok-acc.ensures in rw (h, first, second) (sym (distinct_of-append _ _ a b))
