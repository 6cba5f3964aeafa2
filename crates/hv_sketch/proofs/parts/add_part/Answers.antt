use Rattle.std.proofs.lemmas.Result.{on_ok_weaker}
use Rattle.hv_sketch.proofs.PartsFacts.{before_can_merge}
use Rattle.hv_sketch.proofs.parts.add_part.Goals as goal

pub merge_into-requires : goal.merge_into-requires
merge_into-requires g c =
    let lower = c.requires.lower in
    (lower.0, g.T.Table.rows c.args.table.now, lower.1, c.in_ok-more.ensures, before_can_merge _ _ _ _ c.requires.part lower.2 c.schema-columns.ensures.whole)

pub returns-clause-ok : goal.returns-clause-ok
returns-clause-ok g c =
    on_ok_weaker c.merge_into.result
    (λ merged rows so_far lower. merged rows (g.T.Table.rows c.args.table.now) so_far c.in_ok-more.ensures
    (before_can_merge _ _ _ _ c.requires.part lower c.schema-columns.ensures.whole))
    c.merge_into.ensures.ok
