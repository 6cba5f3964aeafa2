use Rattle.std.proofs.Common.{◌≡◌, false, inl, inr, arith}
use Rattle.hv_member.specs.Sets.{is_in}
use Rattle.hv_member.proofs.GapLemmas.{gap_drop, gap_absent, gap_keep}
use Rattle.hv_member.proofs.lists.not_in.Goals as goal
use Rattle.hv_member.proofs.lists.not_in.Goals.{in-len1-up, in_default+in_ok-push-in_default, in_default-via-then-rest-lt1, in_default-via-in-len1-up+else-first-number}

pub loop-number-preserved : goal.loop-number-preserved
loop-number-preserved c =
    elim c.if-rest-lt1.branch [
      | in-len1-up w ↦ rw (w.found-is, w.rest-is)
          (gap_drop _ _ _ _ _ (omega arith) (omega arith) w.if-first-number.true c.loop-number.invariant)
      | in_default+in_ok-push-in_default w ↦
          let none : is_in c.loop-number.number c.loop-number.rest.now ≡ false =
          gap_absent _ _ _ _ _ (elim w.in_default.branch [
            | in_default-via-then-rest-lt1 v ↦ inl (grind arith)
            | in_default-via-in-len1-up+else-first-number v ↦ inr v.if-first-number.false
          ]) c.loop-number.invariant in
          rw (w.found-is, w.rest-is)
          (gap_keep _ _ _ _ _ _ (omega arith) none w.in_ok-push-in_default.ensures.items c.loop-number.invariant)
    ]
