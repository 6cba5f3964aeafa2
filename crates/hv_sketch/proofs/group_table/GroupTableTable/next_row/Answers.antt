use Rattle.std.proofs.Common.{◌∙◌}
use Rattle.hv_sketch.proofs.GroupRows.{group-number, group-up}
use Rattle.hv_sketch.proofs.group_table.GroupTableTable.next_row.Goals as goal

pub place_from-place-requires : goal.place_from-place-requires
place_from-place-requires g c =
    let kept = c.self.inside in
    group-up _ _ (g.G.Groups.group_of kept.groups.now) kept.group (g.T.Table.rows kept.table.now) _ c.self.invariant.0 c.self.invariant.1

pub returns : goal.returns
returns g c =
    let kept = c.self.inside in
    rw (← c.self.view_is)
    (c.copied.ensures
    ∙ group-number (g.G.Groups.group_of kept.groups.now) kept.group (g.T.Table.rows kept.table.now) _ _ _ _ c.self.invariant.0
    c.place_from-place.ensures c.get.ensures.lookup.0 c.get.ensures.lookup.1)
