use Rattle.hv_quant.proofs.PairFacts.{sort-is}
use Rattle.hv_quant.proofs.nearest.sort_pairs.Goals as goal

pub returns : goal.returns
returns c = sort-is _ _ _ c.sort_unstable.ensures.permutation c.sort_unstable.ensures.sorted c.dedup.ensures.filtered
