use Rattle.std.proofs.Common.{◌≡◌, ℕ, true, subst}
use Rattle.std.specs.Prelude.{◌↔◌, IsTrue}
use Rattle.hv_member.specs.Bits.{bit_of}
use Rattle.hv_member.proofs.WordSetLemmas.{exceeds-more_members, exceeds-fewer_members}
use Rattle.hv_member.proofs.part_set.PartSet.exceeds.Goals as goal

pub returns-then-other-self : goal.returns-then-other-self
returns-then-other-self c =
    let some = subst (λ w. IsTrue c.are_within.result ↔ ((n : ℕ) → bit_of w n ≡ true → bit_of c.deref-then-other-self.result.now n ≡ true))
    c.deref.ensures.value c.are_within.ensures in
    let tells = subst (λ w. IsTrue c.are_within.result ↔ ((n : ℕ) → bit_of c.other.inside.words.items n ≡ true → bit_of w n ≡ true))
    c.deref-then-other-self.ensures.value some in
    exceeds-more_members _ _ _ _ _ _ _ _ c.self.view_is c.other.view_is c.self.invariant c.other.invariant c.requires c.if-other-self.true _ tells

pub returns-else-other-self : goal.returns-else-other-self
returns-else-other-self c =
    exceeds-fewer_members _ _ _ _ _ _ _ _ c.self.view_is c.other.view_is c.self.invariant c.other.invariant c.requires c.if-other-self.false
