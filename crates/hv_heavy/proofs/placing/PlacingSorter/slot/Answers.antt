use Rattle.std.proofs.Common.{◌+◌, ◌<◌, length, subst, sym}
use Rattle.hv_heavy.proofs.PlaceFacts.{slot-below}
use Rattle.hv_heavy.proofs.placing.PlacingSorter.slot.Goals as goal

-- each slot is before their number
pub returns-clause-within : goal.returns-clause-within
returns-clause-within g c = subst (λ s. s < length c.args.self.now.places + 2) (sym c.slot_of.ensures) (slot-below c.args.self.now.places _)
