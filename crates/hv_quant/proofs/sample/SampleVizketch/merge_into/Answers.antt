use Rattle.hv_quant.proofs.SampleFacts.{sample-sum, summary-rises}
use Rattle.hv_quant.proofs.sample.SampleVizketch.merge_into.Goals as goal

pub joined_rows-requires-clause-left : goal.joined_rows-requires-clause-left
joined_rows-requires-clause-left c =
    let view = c.args.self.now in
    rw c.as_slice.ensures (summary-rises view.seed view.k view.order c.requires.0 _ c.requires.2)

pub joined_rows-requires-clause-right : goal.joined_rows-requires-clause-right
joined_rows-requires-clause-right c =
    let view = c.args.self.now in
    rw c.as_slice-2.ensures (summary-rises view.seed view.k view.order c.requires.1 _ c.requires.3)

pub returns-clause-ok : goal.returns-clause-ok
returns-clause-ok c = λ a b first second can.
    let view = c.args.self.now in
    sample-sum view.seed view.k view.order a b _ _ _ first second can (rw (c.as_slice.ensures, c.as_slice-2.ensures) at c.in_ok-rows.ensures)
