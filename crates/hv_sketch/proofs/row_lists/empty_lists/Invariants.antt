use Rattle.std.proofs.Common.{◌≡◌, []}
use Rattle.hv_sketch.specs.Groups.{AreMade}
use Rattle.hv_sketch.proofs.row_lists.empty_lists.Given as goal

abbrev pub invariant-loop-group : goal.invariant-loop-group
invariant-loop-group l = AreMade (λ group numbers. numbers ≡ []) l._group l.made.items
