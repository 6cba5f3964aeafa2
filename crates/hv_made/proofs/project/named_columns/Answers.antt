use Rattle.std.proofs.Common.{◌≡◌, ◌<◌, ◌∙◌, ◌∷◌, [], Some, ap, arith, length, map, sym}
use Rattle.std.specs.Arc.{arc_value}
use Rattle.std.specs.Prelude.{slice_get}
use Rattle.std.proofs.lemmas.List.{map-append}
use Rattle.hv_value.specs.Schema.{column_place}
use Rattle.hv_part.proofs.RowsThere.{made-at}
use Rattle.hv_made.specs.Steps.{col_named}
use Rattle.hv_made.proofs.ColumnSteps.{given-next, place-within}
use Rattle.hv_made.proofs.project.named_columns.Goals as goal

-- one more column was shared
pub loop-name-preserved : goal.loop-name-preserved
loop-name-preserved c =
    let schema = c.args.schema.now in
    let names = c.args.names.now in
    let name = c.name-item.result in
    let j = c.unwrap-j.result in
    let place : column_place name schema ≡ Some j = rw c.as_str.ensures at (sym c.find.ensures ∙ c.unwrap-j.ensures) in
    let within : j < length c.args.cols.now = omega (arith, place-within schema name j place, c.requires.wide) in
    let at : slice_get (map arc_value c.args.cols.now) j ≡ Some (arc_value c.index-cols-j.result) =
    made-at arc_value c.args.cols.now j c.index-cols-j.result within c.index-cols-j.is in
    let named : col_named schema (map arc_value c.args.cols.now) name ≡ Some (arc_value c.index-cols-j.result) = rw place at in
    let next = given-next (col_named schema (map arc_value c.args.cols.now)) names c.loop-name.name-index name (arc_value c.index-cols-j.result)
    c.loop-name-test.true c.name-item.is named in
    ap (map arc_value) c.in_ok-push.ensures.items ∙ map-append arc_value c.loop-name.picked.items (c.in_ok-try_clone.field-0 ∷ [])
    ∙ (rw (c.loop-name.invariant, c.in_ok-try_clone.ensures) (sym next))
