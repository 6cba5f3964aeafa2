use Rattle.std.proofs.Common.{◌≡◌, sym, ◌∙◌, subst}
use Rattle.hv_member.specs.Sets.{IsSetBelow, joined}
use Rattle.hv_member.proofs.RisingLemmas.{IsSetBelow-joined}
use Rattle.hv_member.proofs.WholeLemmas.{joined-numbers, numbers-joined}
use Rattle.hv_member.proofs.KeptLemmas.{opened, opened_full, opened_listed, opened_at, opened_full_at}
use Rattle.hv_member.proofs.CombineLemmas.{is_or}
use Rattle.hv_member.proofs.member.Member.or.Goals as goal

pub listed-requires : goal.listed-requires
listed-requires c =
    let one = opened_listed _ _ _ c.self.view_is c.self.invariant _ c.in-Listed-Listed.is-0 in
    let other = opened_listed _ _ _ c.other.view_is c.other.invariant _ c.in-Listed-Listed.is-1 in
    let two = opened_at _ _ _ _ other (other.size_is ∙ sym c.requires ∙ sym one.size_is) in
    let rows : c.in_ok-in_either-in-Listed-Listed.field-0.items ≡ joined c.in-Listed-Listed.left.items c.in-Listed-Listed.right.items =
    cc (c.in_ok-in_either-in-Listed-Listed.ensures) in
    subst (IsSetBelow c.self.inside.size) (sym rows) (IsSetBelow-joined _ _ _ one.set two.set.below)

pub returns-in-Full-default : goal.returns-in-Full-default
returns-in-Full-default c =
    let one = opened_full _ _ _ c.self.view_is c.self.invariant c.in-Full-default.is-0 in
    let other = opened _ c.other.inside.kept _ c.other.view_is c.other.invariant in
    let two = opened_at _ _ _ _ other (other.size_is ∙ sym c.requires ∙ sym one.size_is) in
    let all = is_or _ _ _ _ _ _ one two _ c.full.ensures (sym (numbers-joined _ _ two.set)) in
    record { rows = all.rows; members = all.members; count = all.count }

pub returns-in-Listed-Full : goal.returns-in-Listed-Full
returns-in-Listed-Full c =
    let one = opened_listed _ _ _ c.self.view_is c.self.invariant _ c.in-Listed-Full.is-0 in
    let other = opened_full _ _ _ c.other.view_is c.other.invariant c.in-Listed-Full.is-1 in
    let two = opened_full_at _ _ _ other (other.size_is ∙ sym c.requires ∙ sym one.size_is) in
    let all = is_or _ _ _ _ _ _ one two _ c.full-in-Listed-Full.ensures (sym (joined-numbers _ _ one.set)) in
    record { rows = all.rows; members = all.members; count = all.count }

pub returns-in_ok-in_either-in-Listed-Listed : goal.returns-in_ok-in_either-in-Listed-Listed
returns-in_ok-in_either-in-Listed-Listed c =
    let one = opened_listed _ _ _ c.self.view_is c.self.invariant _ c.in-Listed-Listed.is-0 in
    let other = opened_listed _ _ _ c.other.view_is c.other.invariant _ c.in-Listed-Listed.is-1 in
    let two = opened_at _ _ _ _ other (other.size_is ∙ sym c.requires ∙ sym one.size_is) in
    let rows : c.in_ok-in_either-in-Listed-Listed.field-0.items ≡ joined c.in-Listed-Listed.left.items c.in-Listed-Listed.right.items =
    cc (c.in_ok-in_either-in-Listed-Listed.ensures) in
    let all = is_or _ _ _ _ _ _ one two _ c.listed.ensures rows in
    record { rows = all.rows; members = all.members; count = all.count }
