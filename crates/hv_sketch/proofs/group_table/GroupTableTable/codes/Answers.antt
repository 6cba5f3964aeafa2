use Rattle.std.proofs.lemmas.Option.{IfSome_then}
use Rattle.hv_sketch.specs.Groups.{is_group}
use Rattle.hv_sketch.proofs.GroupRows.{picked-codes}
use Rattle.hv_sketch.proofs.group_table.GroupTableTable.codes.Goals as goal

-- the table's codes are those of the group's rows too
pub returns : goal.returns
returns g c =
    let kept = c.self.inside in
    rw (← c.self.view_is)
    (IfSome_then c.codes.result c.codes.ensures
    (λ lent. picked-codes (λ row. is_group kept.group (g.G.Groups.group_of kept.groups.now row)) c.args.col (g.T.Table.rows kept.table.now) _ _))
