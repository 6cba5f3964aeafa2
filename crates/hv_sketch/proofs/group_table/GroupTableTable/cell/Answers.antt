use Rattle.hv_sketch.specs.Groups.{is_group}
use Rattle.hv_value.proofs.TableFacts.{found_number}
use Rattle.hv_sketch.proofs.GroupRows.{number-there, picked-there}
use Rattle.hv_sketch.proofs.group_table.GroupTableTable.cell.Goals as goal

pub cell-requires-clause-row_there : goal.cell-requires-clause-row_there
cell-requires-clause-row_there g c =
    let kept = c.self.inside in
    number-there (λ row. is_group kept.group (g.G.Groups.group_of kept.groups.now row)) _ _ _ (g.T.Table.rows kept.table.now) c.self.invariant.1
    (rw (← c.self.view_is) at c.requires.row_there)

pub returns : goal.returns
returns g c = λ found.
    let kept = c.self.inside in
    rw (← c.self.view_is)
    (λ there.
    c.cell.ensures found
    (picked-there (λ row. is_group kept.group (g.G.Groups.group_of kept.groups.now row)) _ _ 0 _ (g.T.Table.rows kept.table.now) found c.self.invariant.1 there
    (found_number _ _ found (rw (← c.self.view_is) at c.requires.row_there) there)))
