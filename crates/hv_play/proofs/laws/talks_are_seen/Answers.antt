use Rattle.hv_play.proofs.SeenLemmas.{seen_right, talks_seen}
use Rattle.hv_play.proofs.laws.talks_are_seen.Goals as goal

pub returns : goal.returns
returns c = record { shown = talks_seen; right = seen_right }
