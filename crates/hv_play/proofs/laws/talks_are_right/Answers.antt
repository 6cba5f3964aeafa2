use Rattle.hv_play.proofs.SpokenLemmas.{talks_led, talks_right}
use Rattle.hv_play.proofs.laws.talks_are_right.Goals as goal

pub returns : goal.returns
returns c = record { led = talks_led; right = talks_right }
