use Rattle.std.specs.Arc.{arc_value}
use Rattle.hv_column.specs.Column.{AreCells}
use Rattle.hv_part.proofs.RowsThere.{made-next}
use Rattle.hv_part.proofs.part_table.look_at.Goals as goal

-- one more column was looked at
pub loop-column-preserved : goal.loop-column-preserved
loop-column-preserved c =
    let few : AreCells (arc_value c.column-item.result) = record {
      few = rw (← c.deref.ensures) c.len.ensures.most;
      fit = rw (← c.deref-in-loop-column.ensures) c.kind.ensures.kinds;
    } in
    made-next AreCells arc_value c.args.cols.now c.loop-column.column-index c.column-item.result c.loop-column-test.true c.column-item.is
    c.loop-column.invariant few
