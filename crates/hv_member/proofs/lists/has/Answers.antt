use Rattle.std.proofs.Common.{◌∙◌}
use Rattle.hv_member.proofs.SearchLemmas.{is_ok-search}
use Rattle.hv_member.proofs.lists.has.Goals as goal

pub returns : goal.returns
returns c = c.is_ok.ensures.value ∙ is_ok-search _ _ _ c.requires c.binary_search.ensures.position
