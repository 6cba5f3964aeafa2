use Rattle.std.proofs.Common.{arith, sym, ◌∙◌, inl, inr}
use Rattle.hv_member.specs.Sets.{minus}
use Rattle.hv_member.proofs.MergeLemmas.{keep_left, drop_right, drop_both, minus-less, minus-greater, minus-equal, minus-result, OneEnded}
use Rattle.hv_member.proofs.lists.in_left_only.Goals as goal
use Rattle.hv_member.proofs.lists.in_left_only.Goals.{then-left_rest-lt1, in-len1-up+then-right_rest-lt1}

pub loop-left_rest-preserved-in-Less : goal.loop-left_rest-preserved-in-Less
loop-left_rest-preserved-in-Less c =
    keep_left minus _ _ _ minus-less _ _ _ (omega arith) (omega arith) (sym c.in-Less.is ∙ c.cmp.ensures) c.in_ok-push-in-Less.ensures.items c.loop-left_rest.invariant

pub loop-left_rest-preserved-in-Greater : goal.loop-left_rest-preserved-in-Greater
loop-left_rest-preserved-in-Greater c =
    drop_right minus _ _ _ minus-greater _ _ (omega arith) (omega arith) (sym c.in-Greater.is ∙ c.cmp.ensures) c.loop-left_rest.invariant

pub loop-left_rest-preserved : goal.loop-left_rest-preserved
loop-left_rest-preserved c =
    drop_both minus _ _ _ minus-equal _ _ (omega arith) (omega arith) (sym c.in-Equal.is ∙ c.cmp.ensures) c.loop-left_rest.invariant

-- one of the lists has ended
pub returns : goal.returns
returns c =
    let one : OneEnded c.loop-left_rest.left_rest.now c.loop-left_rest.right_rest.now =
    elim c.if-left_rest-lt1.branch [ then-left_rest-lt1 w ↦ inl (grind arith) | in-len1-up+then-right_rest-lt1 w ↦ inr (grind arith) ] in
    minus-result _ _ _ _ _ _ one c.in_ok-extend_from_slice.ensures.items c.loop-left_rest.invariant
