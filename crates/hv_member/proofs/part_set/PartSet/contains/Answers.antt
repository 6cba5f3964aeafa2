use Rattle.std.proofs.Common.{sym, ap, ◌∙◌}
use Rattle.std.proofs.lemmas.Bool.{le-ltb}
use Rattle.hv_member.specs.Sets.{is_in}
use Rattle.hv_member.specs.Bits.{bit_of}
use Rattle.hv_member.proofs.WordSetLemmas.{parts-seen, is_in-members, is_in-past}
use Rattle.hv_member.proofs.part_set.PartSet.contains.Goals as goal

pub returns-then-p-self : goal.returns-then-p-self
returns-then-p-self c =
    c.has_bit.ensures ∙ ap (λ w. bit_of w c.args.p) c.deref.ensures.value ∙ sym (is_in-members _ c.args.p _ c.if-p-self.true)
    ∙ ap (is_in c.args.p) (parts-seen _ _ _ c.self.view_is)

pub returns-else-p-self : goal.returns-else-p-self
returns-else-p-self c =
    le-ltb _ _ c.if-p-self.false ∙ sym (is_in-past _ c.args.p _ c.if-p-self.false) ∙ ap (is_in c.args.p) (parts-seen _ _ _ c.self.view_is)
