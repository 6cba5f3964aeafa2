use Rattle.std.proofs.Common.{◌≡◌, replicate, sym, ap, ◌∙◌, subst, rules}
use Rattle.hv_member.specs.Bits.{IsKept, members_of}
use Rattle.hv_member.proofs.WordSetLemmas.{members-zeros, kept-zeros}
use Rattle.hv_member.proofs.part_set.PartSet.new.Goals as goal

pub invariant_of-result : goal.invariant_of-result
invariant_of-result c =
    let items : c.in_ok-words.words.items ≡ replicate c.div_ceil.result 0 = c.in_ok-words.ensures.items_if_clones_equal (λ y same. search rules) in
    subst (IsKept c.args.size 0) (sym items) (kept-zeros c.args.size c.div_ceil.result c.ranges.size.fits c.div_ceil.ensures)

pub returns : goal.returns
returns c =
    let items : c.in_ok-words.words.items ≡ replicate c.div_ceil.result 0 = c.in_ok-words.ensures.items_if_clones_equal (λ y same. search rules) in
    ap (λ t. record { size = c.args.size; parts = t }) (ap (members_of c.args.size) items ∙ members-zeros c.args.size c.div_ceil.result)
