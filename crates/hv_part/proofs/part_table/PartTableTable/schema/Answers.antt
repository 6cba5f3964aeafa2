use Rattle.hv_part.proofs.RowsThere.{rows_of-IsTable}
use Rattle.hv_part.proofs.part_table.PartTableTable.schema.Goals as goal

-- the rows of the table make one
pub returns-clause-whole : goal.returns-clause-whole
returns-clause-whole c = rw (← c.self.view_is) (rows_of-IsTable _ c.self.invariant)
