use Rattle.hv_play.proofs.WordLemmas.{each_last_word, one_last_word}
use Rattle.hv_play.proofs.laws.requests_have_one_last_word.Goals as goal

pub returns : goal.returns
returns c = record { one = one_last_word; each = each_last_word }
