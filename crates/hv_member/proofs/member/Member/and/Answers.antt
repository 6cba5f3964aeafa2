use Rattle.std.proofs.Common.{◌≡◌, sym, ◌∙◌, subst}
use Rattle.hv_member.specs.Sets.{IsSetBelow, common}
use Rattle.hv_member.proofs.RisingLemmas.{IsSetBelow-common}
use Rattle.hv_member.proofs.WholeLemmas.{common-numbers, numbers-common}
use Rattle.hv_member.proofs.KeptLemmas.{opened_full, opened_listed, opened_at, opened_full_at}
use Rattle.hv_member.proofs.CombineLemmas.{is_and}
use Rattle.hv_member.proofs.member.Member.and.Goals as goal

pub listed-requires-in-Listed-Listed : goal.listed-requires-in-Listed-Listed
listed-requires-in-Listed-Listed c =
    let one = opened_listed _ _ _ c.self.view_is c.self.invariant _ c.in-Listed-Listed.is-0 in
    let rows : c.in_ok-in_both-in-Listed-Listed.field-0.items ≡ common c.in-Listed-Listed.left.items c.in-Listed-Listed.right.items =
    cc (c.in_ok-in_both-in-Listed-Listed.ensures) in
    subst (IsSetBelow c.self.inside.size) (sym rows) (IsSetBelow-common _ _ _ one.set)

pub returns-in-Full-Full : goal.returns-in-Full-Full
returns-in-Full-Full c =
    let one = opened_full _ _ _ c.self.view_is c.self.invariant c.in-Full-Full.is-0 in
    let other = opened_full _ _ _ c.other.view_is c.other.invariant c.in-Full-Full.is-1 in
    let two = opened_full_at _ _ _ other (other.size_is ∙ sym c.requires ∙ sym one.size_is) in
    let all = is_and _ _ _ _ _ _ one two _ c.full.ensures (sym (common-numbers _ _ one.set)) in
    record { rows = all.rows; members = all.members; count = all.count }

pub returns-in_ok-from_slice-in-Full-Listed : goal.returns-in_ok-from_slice-in-Full-Listed
returns-in_ok-from_slice-in-Full-Listed c =
    let one = opened_full _ _ _ c.self.view_is c.self.invariant c.in-Full-Listed.is-0 in
    let other = opened_listed _ _ _ c.other.view_is c.other.invariant _ c.in-Full-Listed.is-1 in
    let two = opened_at _ _ _ _ other (other.size_is ∙ sym c.requires ∙ sym one.size_is) in
    let rows = c.in_ok-from_slice-in-Full-Listed.ensures.items ∙ c.deref.ensures.value in
    let all = is_and _ _ _ _ _ _ one two _ c.listed.ensures (rows ∙ sym (numbers-common _ _ two.set)) in
    record { rows = all.rows; members = all.members; count = all.count }

pub returns-in_ok-from_slice-in-Listed-Full : goal.returns-in_ok-from_slice-in-Listed-Full
returns-in_ok-from_slice-in-Listed-Full c =
    let one = opened_listed _ _ _ c.self.view_is c.self.invariant _ c.in-Listed-Full.is-0 in
    let other = opened_full _ _ _ c.other.view_is c.other.invariant c.in-Listed-Full.is-1 in
    let two = opened_full_at _ _ _ other (other.size_is ∙ sym c.requires ∙ sym one.size_is) in
    let rows = c.in_ok-from_slice-in-Listed-Full.ensures.items ∙ c.deref-in-Listed-Full.ensures.value in
    let all = is_and _ _ _ _ _ _ one two _ c.listed-in-Listed-Full.ensures (rows ∙ sym (common-numbers _ _ one.set)) in
    record { rows = all.rows; members = all.members; count = all.count }

pub returns-in_ok-in_both-in-Listed-Listed : goal.returns-in_ok-in_both-in-Listed-Listed
returns-in_ok-in_both-in-Listed-Listed c =
    let one = opened_listed _ _ _ c.self.view_is c.self.invariant _ c.in-Listed-Listed.is-0 in
    let other = opened_listed _ _ _ c.other.view_is c.other.invariant _ c.in-Listed-Listed.is-1 in
    let two = opened_at _ _ _ _ other (other.size_is ∙ sym c.requires ∙ sym one.size_is) in
    let rows : c.in_ok-in_both-in-Listed-Listed.field-0.items ≡ common c.in-Listed-Listed.left.items c.in-Listed-Listed.right.items =
    cc (c.in_ok-in_both-in-Listed-Listed.ensures) in
    let all = is_and _ _ _ _ _ _ one two _ c.listed-in-Listed-Listed.ensures rows in
    record { rows = all.rows; members = all.members; count = all.count }
