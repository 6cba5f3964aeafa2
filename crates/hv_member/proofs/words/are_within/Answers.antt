use Rattle.std.proofs.Common.{refl, arith}
use Rattle.std.proofs.lemmas.Bool.{both_ways}
use Rattle.hv_member.proofs.BitLemmas.{within-more, within-fails}
use Rattle.hv_member.proofs.words.are_within.Goals as goal

pub returns-then-left-index : goal.returns-then-left-index
returns-then-left-index c =
    let fails = within-fails c.args.left.now c.args.right.now c.loop-index.index (omega (arith, c.type_inv.left c.loop-index.index)) c.if-left-index.true in
    (λ never. absurd (both_ways _ refl never), λ each. absurd (fails each))

pub loop-index-preserved : goal.loop-index-preserved
loop-index-preserved c = within-more c.args.left.now c.args.right.now c.loop-index.index c.if-left-index.false c.loop-index.invariant
