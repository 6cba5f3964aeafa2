use Rattle.std.proofs.Common.{refl, arith}
use Rattle.hv_member.proofs.BitLemmas.{first_bit-word}
use Rattle.hv_member.proofs.words.first_bit_of_words.Goals as goal

pub returns-then-word-ne0 : goal.returns-then-word-ne0
returns-then-word-ne0 c =
    first_bit-word c.args.words.now c.args.start c.loop-index.index _ c.loop-index.auto.index refl (omega (arith, c.if-word-ne0.true))
    (omega (arith, c.type_inv.words c.loop-index.index)) c.loop-index.invariant
