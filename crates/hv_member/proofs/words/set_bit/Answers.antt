use Rattle.hv_member.proofs.BitLemmas.{bit_of-set}
use Rattle.hv_member.proofs.words.set_bit.Goals as goal

pub returns : goal.returns
returns c = bit_of-set _ c.args.number c.requires
