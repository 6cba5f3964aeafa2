use Rattle.hv_sketch.specs.TallyLaws.{empty_is}
use Rattle.hv_sketch.proofs.sorter.empty_tally.Goals as goal

pub returns : goal.returns
returns g c = empty_is _ _ c.zeros.result c.slots.result c.slots.ensures c.zeros.ensures
