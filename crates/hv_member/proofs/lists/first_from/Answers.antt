use Rattle.std.proofs.Common.{◌∙◌}
use Rattle.hv_member.proofs.SearchLemmas.{copied-get}
use Rattle.hv_member.proofs.lists.first_from.Goals as goal

pub returns : goal.returns
returns c = c.copied.ensures ∙ copied-get _ _ _ c.get.ensures.lookup.0 c.get.ensures.lookup.1 ∙ c.place_from.ensures
