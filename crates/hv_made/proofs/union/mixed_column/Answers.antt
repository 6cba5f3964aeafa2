use Rattle.std.proofs.Common.{◌≡◌, ◌∷◌, [], arith, length-append}
use Rattle.hv_value.specs.Cells.{cell_lent}
use Rattle.hv_member.specs.Sets.{is_in}
use Rattle.hv_made.specs.Steps.{chosen_cell}
use Rattle.hv_made.proofs.ColumnSteps.{next-value}
use Rattle.hv_made.proofs.union.mixed_column.Goals as goal

-- one more row has its cell
pub loop-row-preserved : goal.loop-row-preserved
loop-row-preserved c =
    let left = c.args.left.now in
    let right = c.args.right.now in
    let held = c.args.held.now.rows in
    let alone = c.args.alone.now.rows in
    let here : cell_lent c.chosen-cell.result ≡ chosen_cell left right c.loop-row.row (is_in c.loop-row.row held) (is_in c.loop-row.row alone) =
    rw (c.is_next-is_left.ensures.value, c.is_next-is_right.ensures.value) at c.chosen-cell.ensures.value in
    rw c.in_ok-push.ensures.ok (record {
      kind_is = c.loop-row.invariant.kind_is;
      length_is = omega (arith, length-append c.loop-row.column.cells (cell_lent c.chosen-cell.result ∷ []), c.loop-row.invariant.length_is);
      values = next-value (λ n. chosen_cell left right n (is_in n held) (is_in n alone)) c.loop-row.column.cells (cell_lent c.chosen-cell.result)
          c.loop-row.row c.loop-row.invariant.length_is c.loop-row.invariant.values here;
      left_next = c.is_next-is_left.ensures.onward;
      right_next = c.is_next-is_right.ensures.onward;
    })
