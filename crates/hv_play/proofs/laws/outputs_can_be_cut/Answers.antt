use Rattle.hv_play.proofs.CutLemmas.{front_of_lines}
use Rattle.hv_play.proofs.laws.outputs_can_be_cut.Goals as goal

pub returns : goal.returns
returns c = record { cut = front_of_lines }
