use Rattle.std.proofs.Common.{append_assoc, refl}
use Rattle.hv_lineage.proofs.ColumnLemmas.{take-next}
use Rattle.hv_lineage.proofs.columns.add_columns.Goals as goal

-- one more column was copied
pub loop-j-preserved : goal.loop-j-preserved
loop-j-preserved c =
    let next = take-next c.args.schema.now c.loop-j.j c.in_ok-copy_column.field-0 c.in_ok-copy_column.ensures in
    rw (c.in_ok-push.ensures.items, c.loop-j.invariant, next, append_assoc) refl
