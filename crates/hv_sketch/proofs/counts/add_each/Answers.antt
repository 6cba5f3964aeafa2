use Rattle.std.proofs.Common.{arith, length}
use Rattle.std.proofs.lemmas.List.FromFn.{fill_by_all}
use Rattle.hv_sketch.proofs.counts.add_each.Goals as goal

pub returns : goal.returns
returns c =
    fill_by_all _ c.loop-slot.counts (length c.args.counts.now) 0 c.loop-slot.auto.counts
    (λ k within. c.loop-slot.invariant.done k (omega (arith, within, c.loop-slot-test.false)))
