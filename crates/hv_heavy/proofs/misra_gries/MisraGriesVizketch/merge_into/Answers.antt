use Rattle.std.proofs.Common.{arith}
use Rattle.hv_heavy.proofs.HeavyFacts.{heavy-fits, heavy-sum}
use Rattle.hv_heavy.proofs.misra_gries.MisraGriesVizketch.merge_into.Goals as goal

pub sum-requires-clause-left : goal.sum-requires-clause-left
sum-requires-clause-left c = rw c.as_slice.ensures c.requires.2.pairs.rises

pub sum-requires-clause-right : goal.sum-requires-clause-right
sum-requires-clause-right c = rw c.as_slice-2.ensures c.requires.3.pairs.rises

pub sum-requires-clause-fits : goal.sum-requires-clause-fits
sum-requires-clause-fits c =
    let view = c.args.self.now in
    rw (c.as_slice.ensures, c.as_slice-2.ensures)
    (omega (arith, (heavy-fits view.col view.k c.requires.0 _ c.requires.2).2, (heavy-fits view.col view.k c.requires.1 _ c.requires.3).2))

pub returns-clause-ok : goal.returns-clause-ok
returns-clause-ok c = λ a b first second can.
    let view = c.args.self.now in
    heavy-sum view.col view.k a b _ _ _ first second can (rw (c.as_slice.ensures, c.as_slice-2.ensures) at c.in_ok-acc.ensures)

pub overflow_add-acc : goal.overflow_add-acc
overflow_add-acc c =
    let view = c.args.self.now in
    omega (arith, (heavy-fits view.col view.k c.requires.0 _ c.requires.2).0, (heavy-fits view.col view.k c.requires.1 _ c.requires.3).0)
