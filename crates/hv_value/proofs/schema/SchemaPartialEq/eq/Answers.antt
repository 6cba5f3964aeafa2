use Rattle.std.proofs.Common.{◌≡◌, ◌↔◌, ◌∙◌, IsTrue, subst}
use Rattle.hv_value.specs.Schema.{Columns}
use Rattle.hv_value.specs.SameLaws.{same_by-is}
use Rattle.hv_value.specs.contracts.schema.Schema as row
use Rattle.hv_value.proofs.schema.SchemaPartialEq.eq.Goals as goal

-- src/schema.rt:71:5
pub returns : goal.returns
returns c =
    let same = c.are_same_columns.result in
    let left : c.as_slice.result.now ≡ c.args.self.now = c.as_slice.ensures.value ∙ c.self.view_is in
    let right : c.as_slice-2.result.now ≡ c.args.other.now = c.as_slice-2.ensures.value ∙ c.other.view_is in
    same_by-is row.the_row.coded same c.args.self.now c.args.other.now
    (subst (λ (x : Columns). IsTrue same ↔ (x ≡ c.args.other.now)) left
    (subst (λ (y : Columns). IsTrue same ↔ (c.as_slice.result.now ≡ y)) right c.are_same_columns.ensures))
