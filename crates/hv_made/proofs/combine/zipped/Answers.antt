use Rattle.std.proofs.Common.{◌≡◌, ◌∙◌, ◌++◌, ◌&&◌, ℕ, ap, map, refl}
use Rattle.std.specs.Arc.{arc_value}
use Rattle.std.proofs.lemmas.List.{map-append}
use Rattle.hv_member.specs.Member.{RowSet}
use Rattle.hv_member.specs.Sets.{is_in}
use Rattle.hv_made.proofs.CombineSteps.{zip-combined}
use Rattle.hv_made.proofs.combine.zipped.Goals as goal

-- the columns of both stand side by side, in the rows of both
pub returns : goal.returns
returns c =
    let left = c.args.left in
    let right = c.args.right in
    let member = c.in_ok-member.member in
    let cols : map arc_value c.append.new.self.items ≡ left.cols ++ right.cols =
    ap (map arc_value) c.in_ok-append.ensures.items ∙ map-append arc_value c.into_parts-cols.result.1.items c.into_parts-more.result.1.items
    ∙ (rw (c.into_parts-cols.ensures.cols, c.into_parts-more.ensures.cols) refl) in
    let height : member.size ≡ left.member.size =
    ap (λ (m : RowSet). m.size) c.in_ok-member.ensures.rows ∙ ap (λ (m : RowSet). m.size) c.member.ensures.value in
    let members : (n : ℕ) → is_in n member.rows ≡ (is_in n left.member.rows && is_in n right.member.rows) =
    λ n. rw (c.member.ensures.value, c.member-2.ensures.value) at (c.in_ok-member.ensures.members n) in
    rw (c.new.ensures, c.in_ok-schema.ensures, c.schema.ensures.value, c.schema-2.ensures.value, cols, c.part-part.ensures)
    (zip-combined left right member height members)
