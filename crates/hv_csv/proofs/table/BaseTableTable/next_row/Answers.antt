use Rattle.hv_csv.proofs.BaseRows.{next-past, next-there}
use Rattle.hv_csv.proofs.table.BaseTableTable.next_row.Goals as goal

-- a number below the number of rows is that of a row
pub returns-then-from-self : goal.returns-then-from-self
returns-then-from-self c =
    rw (← c.self.view_is) (next-there c.self.inside.part c.self.inside.cols.items c.self.inside.count c.args.from c.if-from-self.true)

-- no other is
pub returns-else-from-self : goal.returns-else-from-self
returns-else-from-self c =
    rw (← c.self.view_is) (next-past c.self.inside.part c.self.inside.cols.items c.self.inside.count c.args.from c.if-from-self.false)
