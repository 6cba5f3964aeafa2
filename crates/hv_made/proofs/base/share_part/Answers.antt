use Rattle.std.proofs.Common.{◌≡◌, ◌≤◌, ◌∙◌, ◌∷◌, [], ap, arith, length, map, refl, sym}
use Rattle.std.specs.Arc.{arc_value}
use Rattle.std.proofs.lemmas.List.{map-append, take_all}
use Rattle.hv_value.specs.Schema.{Columns}
use Rattle.hv_part.proofs.RowsThere.{wide}
use Rattle.hv_lineage.proofs.ColumnLemmas.{take-next}
use Rattle.hv_made.proofs.BaseSteps.{same-member}
use Rattle.hv_made.proofs.base.share_part.Goals as goal

-- there is one column for each of the schema's
pub column-requires : goal.column-requires
column-requires c =
    omega (arith, wide c.args.table.now c.member.ensures.whole, ap (λ (cs : Columns). length cs) c.schema.ensures.value, c.len-j-end.ensures.value)

-- one more was shared
pub loop-j-preserved : goal.loop-j-preserved
loop-j-preserved c =
    ap (map arc_value) c.in_ok-push.ensures.items ∙ map-append arc_value c.loop-j.cols.items (c.in_ok-try_clone.field-0 ∷ [])
    ∙ (rw (c.loop-j.invariant, c.in_ok-try_clone.ensures) (sym (take-next c.args.table.now.cols c.loop-j.j (arc_value c.column.result.now) c.column.ensures)))

-- so all agree as before
pub new-requires : goal.new-requires
new-requires c =
    let table = c.args.table.now in
    let past : length table.cols ≤ c.loop-j.j =
    omega (arith, wide table c.member.ensures.whole, ap (λ (cs : Columns). length cs) c.schema.ensures.value, c.len-j-end.ensures.value) in
    let cols : map arc_value c.loop-j.cols.items ≡ table.cols = c.loop-j.invariant ∙ take_all c.loop-j.j table.cols past in
    let rows : c.in_ok-member.member ≡ table.member =
    (rw (c.member.ensures.value, c.member-2.ensures.value) at c.in_ok-member.ensures.rows)
    ∙ same-member table.member c.member.ensures.whole.member.rising in
    rw (c.in_ok-schema.ensures, c.schema-2.ensures.value, cols, rows) c.member.ensures.whole.agree

-- and are the same
pub returns : goal.returns
returns c =
    let table = c.args.table.now in
    let past : length table.cols ≤ c.loop-j.j =
    omega (arith, wide table c.member.ensures.whole, ap (λ (cs : Columns). length cs) c.schema.ensures.value, c.len-j-end.ensures.value) in
    let cols : map arc_value c.loop-j.cols.items ≡ table.cols = c.loop-j.invariant ∙ take_all c.loop-j.j table.cols past in
    let rows : c.in_ok-member.member ≡ table.member =
    (rw (c.member.ensures.value, c.member-2.ensures.value) at c.in_ok-member.ensures.rows)
    ∙ same-member table.member c.member.ensures.whole.member.rising in
    rw (c.new.ensures, c.in_ok-schema.ensures, c.schema-2.ensures.value, c.part.ensures, cols, rows) refl
