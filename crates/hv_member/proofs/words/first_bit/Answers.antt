use Rattle.std.proofs.Common.{refl, arith, ◌/◌, ◌+◌, ◌*◌}
use Rattle.hv_member.proofs.BitLemmas.{first_bit-later, first_bit-shifted, first_bit-shifted_out}
use Rattle.hv_member.proofs.words.first_bit.Goals as goal

pub returns-then-rest-ne0 : goal.returns-then-rest-ne0
returns-then-rest-ne0 c =
    first_bit-shifted c.args.words.now c.args.from _ (omega (arith, c.type_inv.words (c.args.from / 64))) refl (omega (arith, c.if-rest-ne0.true))
    (omega (arith, c.type_inv.words (c.args.from / 64)))

pub returns : goal.returns
returns c =
    first_bit-later c.args.words.now c.args.from (64 * (c.args.from / 64 + 1)) _ (omega arith)
    (first_bit-shifted_out c.args.words.now c.args.from c.if-rest-ne0.false) c.first_bit_of_words.ensures
