use Rattle.std.proofs.Common.{◌≡◌, sym, ◌∙◌, subst}
use Rattle.hv_member.specs.Sets.{IsSetBelow, minus, numbers}
use Rattle.hv_member.proofs.RisingLemmas.{IsSetBelow-minus, IsSetBelow-numbers}
use Rattle.hv_member.proofs.WholeLemmas.{minus-numbers}
use Rattle.hv_member.proofs.KeptLemmas.{opened, opened_full, opened_listed, opened_at, opened_full_at}
use Rattle.hv_member.proofs.CombineLemmas.{is_minus}
use Rattle.hv_member.proofs.member.Member.minus.Goals as goal

pub listed-requires-in-Full-Listed : goal.listed-requires-in-Full-Listed
listed-requires-in-Full-Listed c =
    let rows : c.in_ok-not_in-in-Full-Listed.field-0.items ≡ minus (numbers c.self.inside.size) c.in-Full-Listed.rows.items =
    cc (c.in_ok-not_in-in-Full-Listed.ensures) in
    subst (IsSetBelow c.self.inside.size) (sym rows) (IsSetBelow-minus _ _ _ (IsSetBelow-numbers _))

pub listed-requires-in-Listed-Listed : goal.listed-requires-in-Listed-Listed
listed-requires-in-Listed-Listed c =
    let one = opened_listed _ _ _ c.self.view_is c.self.invariant _ c.in-Listed-Listed.is-0 in
    let rows : c.in_ok-in_left_only-in-Listed-Listed.field-0.items ≡ minus c.in-Listed-Listed.left.items c.in-Listed-Listed.right.items =
    cc (c.in_ok-in_left_only-in-Listed-Listed.ensures) in
    subst (IsSetBelow c.self.inside.size) (sym rows) (IsSetBelow-minus _ _ _ one.set)

pub returns-in_default-Full : goal.returns-in_default-Full
returns-in_default-Full c =
    let one = opened _ c.self.inside.kept _ c.self.view_is c.self.invariant in
    let other = opened_full _ _ _ c.other.view_is c.other.invariant c.in_default-Full.is-1 in
    let two = opened_full_at _ _ _ other (other.size_is ∙ sym c.requires ∙ sym one.size_is) in
    let all = is_minus _ _ _ _ _ _ one two _ c.listed.ensures (c.new.ensures.items ∙ sym (minus-numbers _ _ one.set)) in
    record { rows = all.rows; members = all.members; count = all.count }

pub returns-in_ok-not_in-in-Full-Listed : goal.returns-in_ok-not_in-in-Full-Listed
returns-in_ok-not_in-in-Full-Listed c =
    let one = opened_full _ _ _ c.self.view_is c.self.invariant c.in-Full-Listed.is-0 in
    let other = opened_listed _ _ _ c.other.view_is c.other.invariant _ c.in-Full-Listed.is-1 in
    let two = opened_at _ _ _ _ other (other.size_is ∙ sym c.requires ∙ sym one.size_is) in
    let rows : c.in_ok-not_in-in-Full-Listed.field-0.items ≡ minus (numbers c.self.inside.size) c.in-Full-Listed.rows.items =
    cc (c.in_ok-not_in-in-Full-Listed.ensures) in
    let all = is_minus _ _ _ _ _ _ one two _ c.listed-in-Full-Listed.ensures rows in
    record { rows = all.rows; members = all.members; count = all.count }

pub returns-in_ok-in_left_only-in-Listed-Listed : goal.returns-in_ok-in_left_only-in-Listed-Listed
returns-in_ok-in_left_only-in-Listed-Listed c =
    let one = opened_listed _ _ _ c.self.view_is c.self.invariant _ c.in-Listed-Listed.is-0 in
    let other = opened_listed _ _ _ c.other.view_is c.other.invariant _ c.in-Listed-Listed.is-1 in
    let two = opened_at _ _ _ _ other (other.size_is ∙ sym c.requires ∙ sym one.size_is) in
    let rows : c.in_ok-in_left_only-in-Listed-Listed.field-0.items ≡ minus c.in-Listed-Listed.left.items c.in-Listed-Listed.right.items =
    cc (c.in_ok-in_left_only-in-Listed-Listed.ensures) in
    let all = is_minus _ _ _ _ _ _ one two _ c.listed-in-Listed-Listed.ensures rows in
    record { rows = all.rows; members = all.members; count = all.count }
