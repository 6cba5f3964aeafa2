use Rattle.hv_sketch.specs.Groups.{is_group}
use Rattle.hv_sketch.proofs.GroupRows.{picked-are}
use Rattle.hv_sketch.proofs.group_table.GroupTableTable.schema.Goals as goal

-- the group's rows make a table
pub returns-clause-whole : goal.returns-clause-whole
returns-clause-whole g c =
    let kept = c.self.inside in
    rw (← c.self.view_is) (picked-are (λ row. is_group kept.group (g.G.Groups.group_of kept.groups.now row)) _ _ 0 (g.T.Table.rows kept.table.now) c.self.invariant.1)
