use Rattle.std.proofs.Common.{◌≡◌, ◌↔◌, ◌∙◌, IsTrue, List, subst}
use Rattle.hv_value.specs.declared.orders.OrderKey.{OrderKey}
use Rattle.hv_value.specs.SameLaws.{same_by-is}
use Rattle.hv_value.specs.contracts.orders.Order as row
use Rattle.hv_value.proofs.orders.OrderPartialEq.eq.Goals as goal

pub returns : goal.returns
returns c =
    let same = c.are_same_keys.result in
    let left : c.as_slice.result.now ≡ c.args.self.now = c.as_slice.ensures.value ∙ c.self.view_is in
    let right : c.as_slice-2.result.now ≡ c.args.other.now = c.as_slice-2.ensures.value ∙ c.other.view_is in
    same_by-is row.the_row.coded same c.args.self.now c.args.other.now
    (subst (λ (x : List OrderKey). IsTrue same ↔ (x ≡ c.args.other.now)) left
    (subst (λ (y : List OrderKey). IsTrue same ↔ (c.as_slice.result.now ≡ y)) right c.are_same_keys.ensures))
