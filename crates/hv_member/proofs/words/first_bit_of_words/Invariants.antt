use Rattle.std.proofs.Common.{◌≡◌, ℕ, ◌*◌, ◌<◌, ◌≤◌, false}
use Rattle.hv_member.specs.Bits.{bit_of}
use Rattle.hv_member.proofs.words.first_bit_of_words.Given as goal

abbrev pub invariant-loop-index : goal.invariant-loop-index
invariant-loop-index l = (p : ℕ) → 64 * l.start ≤ p → p < 64 * l.index → bit_of l.words p ≡ false
