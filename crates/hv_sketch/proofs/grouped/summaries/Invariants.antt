use Rattle.hv_sketch.specs.Groups.{AreMade, group_rows}
use Rattle.hv_sketch.proofs.grouped.summaries.Given as goal

abbrev pub invariant-loop-group : goal.invariant-loop-group
invariant-loop-group g l =
    AreMade (λ group s. g.V.Vizketch.stands l.view (group_rows (g.G.Groups.group_of l.groups) group (g.T.Table.rows l.table)) s) l.group l.made.items
