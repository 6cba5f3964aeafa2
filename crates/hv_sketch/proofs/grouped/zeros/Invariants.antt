use Rattle.std.proofs.Common.{[]}
use Rattle.hv_sketch.specs.Groups.{AreMade}
use Rattle.hv_sketch.proofs.grouped.zeros.Given as goal

abbrev pub invariant-loop-group : goal.invariant-loop-group
invariant-loop-group g l = AreMade (λ group s. g.V.Vizketch.stands l.view [] s) l._group l.made.items
