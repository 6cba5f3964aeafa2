use Rattle.std.proofs.Common.{◌-◌, ◌^◌}
use Rattle.hv_sketch.proofs.GatherFacts.{HasGathered}
use Rattle.hv_sketch.proofs.gather.gather_rows.Given as goal

-- the rows numbered below `from` have been gathered
abbrev pub invariant-loop-row : goal.invariant-loop-row
invariant-loop-row g l = HasGathered (λ rows. g.V.Gather.gathers l.view (g.T.Table.part_number l.table) rows l.kept) (g.T.Table.rows l.table) l.from

abbrev pub decreases-loop-row : goal.decreases-loop-row
decreases-loop-row g l = 2 ^ 26 - l.from
