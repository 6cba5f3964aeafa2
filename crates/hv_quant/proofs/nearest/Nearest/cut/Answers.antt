use Rattle.std.proofs.Common.{◌-◌, ◌∙◌, ap, arith, length, refl, take}
use Rattle.hv_quant.proofs.PairFacts.{cut-edge, cut-nearest}
use Rattle.hv_quant.proofs.nearest.Nearest.cut.Goals as goal

pub returns-then-count-gt0-clause-near : goal.returns-then-count-gt0-clause-near
returns-then-count-gt0-clause-near c = λ pairs near.
    let is = c.truncate.ensures.items ∙ ap (take c.args.k) c.sort_pairs.ensures in
    let counted = c.len-count.ensures in
    cut-edge c.args.k pairs _ near _ (c.len-count.result - 1) c.index.result.now is (omega (arith, counted, c.if-count-k.true)) (omega (arith, counted, c.if-count-gt0.true)) c.index.ensures

pub returns-else-count-k-clause-near : goal.returns-else-count-k-clause-near
returns-else-count-k-clause-near c = λ pairs near.
    cut-nearest c.args.k pairs _ near _ refl (c.truncate.ensures.items ∙ ap (take c.args.k) c.sort_pairs.ensures)
