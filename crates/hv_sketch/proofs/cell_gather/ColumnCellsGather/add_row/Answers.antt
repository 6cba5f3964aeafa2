use Rattle.hv_sketch.proofs.ColumnFacts.{cell_taken}
use Rattle.hv_sketch.proofs.cell_gather.ColumnCellsGather.add_row.Goals as goal

pub add_cell-requires-clause-taken : goal.add_cell-requires-clause-taken
add_cell-requires-clause-taken g c =
    let so_far = c.requires.kept_so_far in
    rw (c.cell.ensures so_far.1 so_far.2) (cell_taken _ _ _ _ _ _ so_far.1 c.requires.whole c.requires.fit so_far.2)
