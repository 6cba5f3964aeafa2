use Rattle.std.proofs.Common.{arith}
use Rattle.hv_sketch.specs.TallyLaws.{IsTally-more, count-few, length-counts}
use Rattle.hv_sketch.proofs.sorter.TallyingGather.add_row.Goals as goal

pub add_one-requires-clause-within : goal.add_one-requires-clause-within
add_one-requires-clause-within g c =
    let kept = c.requires.kept_so_far in
    omega (arith, c.slot.ensures.within, length-counts _ _ kept.0 c.args.kept.now kept.3)

pub add_one-requires-clause-fits : goal.add_one-requires-clause-fits
add_one-requires-clause-fits g c =
    let kept = c.requires.kept_so_far in
    omega (arith, count-few _ _ kept.0 c.args.kept.now c.slot.result kept.3 c.slot.ensures.within)

pub returns : goal.returns
returns g c = λ rows found there kept next.
    rw c.add_one.ensures (IsTally-more _ _ rows found c.args.kept.now c.slot.result kept next.merge (c.slot.ensures.value found there) c.slot.ensures.within)
