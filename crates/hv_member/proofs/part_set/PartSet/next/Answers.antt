use Rattle.std.proofs.Common.{Some, None, arith, sym, ap, ◌∙◌, subst}
use Rattle.hv_member.specs.Sets.{next_from}
use Rattle.hv_member.specs.Bits.{IsFirstBit}
use Rattle.hv_member.proofs.WordSetLemmas.{parts-seen, next-some, next-none, first-small}
use Rattle.hv_member.proofs.part_set.PartSet.next.Goals as goal

pub first_bit-requires : goal.first_bit-requires
first_bit-requires c = omega (arith, c.self.invariant.room, c.self.invariant.small)

pub returns-in_err-found : goal.returns-in_err-found
returns-in_err-found c =
    let none = subst (λ w. IsFirstBit w c.args.from None) c.deref.ensures.value c.in_err-found.ensures in
    c.from_residual.ensures ∙ sym (next-none _ _ _ c.self.invariant c.args.from none) ∙ ap (next_from c.args.from) (parts-seen _ _ _ c.self.view_is)

pub overflow_cast-result : goal.overflow_cast-result
overflow_cast-result c =
    let first = subst (λ w. IsFirstBit w c.args.from (Some c.in_ok-found.found)) c.deref.ensures.value c.in_ok-found.ensures in
    omega (arith, first-small _ _ _ c.self.invariant c.args.from c.in_ok-found.found first, c.self.invariant.small)

pub returns : goal.returns
returns c =
    let first = subst (λ w. IsFirstBit w c.args.from (Some c.in_ok-found.found)) c.deref.ensures.value c.in_ok-found.ensures in
    sym (next-some _ _ _ c.self.invariant c.args.from c.in_ok-found.found first) ∙ ap (next_from c.args.from) (parts-seen _ _ _ c.self.view_is)
