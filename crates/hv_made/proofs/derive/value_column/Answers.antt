use Rattle.std.proofs.Common.{◌≡◌, ◌<◌, ◌∙◌, ◌∷◌, [], arith, length-append, refl}
use Rattle.hv_value.specs.Cells.{cell_lent}
use Rattle.hv_member.proofs.RisingLemmas.{all-in}
use Rattle.hv_made.specs.Steps.{value_in}
use Rattle.hv_made.proofs.ColumnSteps.{next-value, value_in-kind}
use Rattle.hv_made.proofs.derive.value_column.Goals as goal

-- no row has a cell yet
pub loop-row-init : goal.loop-row-init
loop-row-init c = record {
  kind = rw c.in_ok-column.ensures (rw c.schema-2.ensures.value at c.kind_over.ensures);
  length_is = rw c.in_ok-column.ensures refl;
  values = λ n below. absurd (omega arith);
  prepared = rw c.schema.ensures.value at c.in_ok-ready.ensures;
}

pub value_at-requires : goal.value_at-requires
value_at-requires c = c.loop-row.invariant.prepared.within

-- the value is missing or of the column's kind
pub push-requires-clause-fits : goal.push-requires-clause-fits
push-requires-clause-fits c =
    rw (c.lent.ensures, c.in_ok-cell.ensures c.args.expr.now c.loop-row.invariant.prepared)
    (value_in-kind c.args.table.now c.args.expr.now c.loop-row.column.kind c.loop-row.row c.height-row-end.ensures.whole c.requires.value c.loop-row.invariant.kind)

-- one more row has its value
pub loop-row-preserved : goal.loop-row-preserved
loop-row-preserved c =
    let here : cell_lent c.lent.result ≡ value_in c.args.table.now c.args.expr.now c.loop-row.row =
    c.lent.ensures ∙ c.in_ok-cell.ensures c.args.expr.now c.loop-row.invariant.prepared in
    rw c.in_ok-push.ensures.ok (record {
      kind = c.loop-row.invariant.kind;
      length_is = omega (arith, length-append c.loop-row.column.cells (cell_lent c.lent.result ∷ []), c.loop-row.invariant.length_is);
      values = next-value (value_in c.args.table.now c.args.expr.now) c.loop-row.column.cells (cell_lent c.lent.result) c.loop-row.row
          c.loop-row.invariant.length_is c.loop-row.invariant.values here;
      prepared = c.loop-row.invariant.prepared;
    })

-- and so each that is there
pub returns-clause-values : goal.returns-clause-values
returns-clause-values c = λ n there.
    let table = c.args.table.now in
    let below : n < table.member.size = all-in (λ x. x < table.member.size) table.member.rows c.height-row-end.ensures.whole.member.below n there in
    let past : n < c.loop-row.row = omega (arith, c.height-row-end.ensures.value) in
    rw there at (c.loop-row.invariant.values n past)
