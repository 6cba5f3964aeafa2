use Rattle.std.proofs.Common.{◌≡◌, ◌<◌, ◌||◌, ◌+◌, ℕ, false, eqb, length, sym, ap, ◌∙◌, subst, arith}
use Rattle.hv_member.specs.Bits.{bit_of, members_of, IsKept}
use Rattle.hv_member.proofs.WordSetLemmas.{size-seen, written-whole, kept-inserted, count-inserted, insert-new, insert-there}
use Rattle.hv_member.proofs.part_set.PartSet.insert.Goals as goal

-- the bit was not set, and there is room for one more
pub overflow_add-self : goal.overflow_add-self
overflow_add-self c =
    let words = c.self.inside.words.items in
    let each : (n : ℕ) → bit_of c.set_bit.new.words n ≡ (eqb n c.args.p || bit_of words n) =
    λ n. c.set_bit.ensures n ∙ ap (λ w. eqb n c.args.p || bit_of w n) c.deref_mut.ensures.value in
    let none : bit_of words c.args.p ≡ false = cc in
    let long : length c.set_bit.new.words ≡ length words = c.set_bit.auto.words ∙ ap length c.deref_mut.ensures.value in
    let below : c.args.p < c.self.inside.size = omega (arith, size-seen _ _ _ c.self.view_is) in
    omega (arith, count-inserted c.self.inside.size c.args.p words c.set_bit.new.words below each _ c.self.invariant none long, c.self.invariant.small)

pub invariant_of-self : goal.invariant_of-self
invariant_of-self c =
    let words = c.self.inside.words.items in
    let new = c.set_bit.new.words in
    let each : (n : ℕ) → bit_of new n ≡ (eqb n c.args.p || bit_of words n) =
    λ n. c.set_bit.ensures n ∙ ap (λ w. eqb n c.args.p || bit_of w n) c.deref_mut.ensures.value in
    let none : bit_of words c.args.p ≡ false = cc in
    let long : length new ≡ length words = c.set_bit.auto.words ∙ ap length c.deref_mut.ensures.value in
    let below : c.args.p < c.self.inside.size = omega (arith, size-seen _ _ _ c.self.view_is) in
    let whole = written-whole c.self.inside.words.len words new (omega (arith, c.self.inside.words.ok.0)) long in
    subst (IsKept c.self.inside.size (c.self.inside.count + 1)) (sym whole)
    (kept-inserted c.self.inside.size c.args.p words new below each _ c.self.invariant none long)

pub returns-then-not-has_bit : goal.returns-then-not-has_bit
returns-then-not-has_bit c =
    let words = c.self.inside.words.items in
    let new = c.set_bit.new.words in
    let each : (n : ℕ) → bit_of new n ≡ (eqb n c.args.p || bit_of words n) =
    λ n. c.set_bit.ensures n ∙ ap (λ w. eqb n c.args.p || bit_of w n) c.deref_mut.ensures.value in
    let long : length new ≡ length words = c.set_bit.auto.words ∙ ap length c.deref_mut.ensures.value in
    let whole = written-whole c.self.inside.words.len words new (omega (arith, c.self.inside.words.ok.0)) long in
    ap (λ w. record { size = c.self.inside.size; parts = members_of c.self.inside.size w }) whole
    ∙ insert-new _ c.args.p words _ c.self.view_is c.requires new each

pub returns-else-not-has_bit : goal.returns-else-not-has_bit
returns-else-not-has_bit c = insert-there _ c.args.p _ _ c.self.view_is c.requires (cc)
