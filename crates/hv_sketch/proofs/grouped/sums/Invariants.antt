use Rattle.hv_sketch.specs.Groups.{AreMade, IsSum, OfPlace}
use Rattle.hv_sketch.proofs.grouped.sums.Given as goal

abbrev pub invariant-loop-place : goal.invariant-loop-place
invariant-loop-place g l =
    AreMade (λ place t. OfPlace l.acc place (λ s. OfPlace l.d place (λ more. IsSum (g.V.Vizketch.stands l.view) s more t))) l.place l.made.items
