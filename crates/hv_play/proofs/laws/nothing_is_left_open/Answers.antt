use Rattle.hv_play.proofs.EndLemmas.{nothing_open}
use Rattle.hv_play.proofs.laws.nothing_is_left_open.Goals as goal

pub returns : goal.returns
returns c = nothing_open
