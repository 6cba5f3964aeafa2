use Rattle.hv_member.proofs.RisingLemmas.{length-set_below}
use Rattle.hv_member.proofs.WordSetLemmas.{set-seen}
use Rattle.hv_member.proofs.part_set.PartSet.count.Goals as goal

pub returns-clause-set : goal.returns-clause-set
returns-clause-set c = set-seen _ _ _ c.self.view_is

pub returns-clause-within : goal.returns-clause-within
returns-clause-within c = length-set_below _ _ (set-seen _ _ _ c.self.view_is)
