use Rattle.std.proofs.Common.{arith, sym, ◌∙◌, inl, inr}
use Rattle.hv_member.specs.Sets.{joined}
use Rattle.hv_member.proofs.MergeLemmas.{keep_left, keep_right, keep_both, joined-less, joined-greater, joined-equal, joined-result, OneEnded}
use Rattle.hv_member.proofs.lists.in_either.Goals as goal
use Rattle.hv_member.proofs.lists.in_either.Goals.{then-left_rest-lt1, in-len1-up+then-right_rest-lt1}

pub loop-left_rest-preserved-in-Less : goal.loop-left_rest-preserved-in-Less
loop-left_rest-preserved-in-Less c =
    keep_left joined _ _ _ joined-less _ _ _ (omega arith) (omega arith) (sym c.in-Less.is ∙ c.cmp.ensures) c.in_ok-push-in-Less.ensures.items c.loop-left_rest.invariant

pub loop-left_rest-preserved-in-Greater : goal.loop-left_rest-preserved-in-Greater
loop-left_rest-preserved-in-Greater c =
    keep_right joined _ _ _ joined-greater _ _ _ (omega arith) (omega arith) (sym c.in-Greater.is ∙ c.cmp.ensures) c.in_ok-push-in-Greater.ensures.items c.loop-left_rest.invariant

pub loop-left_rest-preserved : goal.loop-left_rest-preserved
loop-left_rest-preserved c =
    keep_both joined _ _ _ joined-equal _ _ _ (omega arith) (omega arith) (sym c.in-Equal.is ∙ c.cmp.ensures) c.in_ok-push-in-Equal.ensures.items c.loop-left_rest.invariant

-- one of the lists has ended
pub returns : goal.returns
returns c =
    let one : OneEnded c.loop-left_rest.left_rest.now c.loop-left_rest.right_rest.now =
    elim c.if-left_rest-lt1.branch [ then-left_rest-lt1 w ↦ inl (grind arith) | in-len1-up+then-right_rest-lt1 w ↦ inr (grind arith) ] in
    joined-result _ _ _ _ _ _ _ one c.in_ok-extend_from_slice.ensures.items c.in_ok-extend_from_slice-2.ensures.items c.loop-left_rest.invariant
