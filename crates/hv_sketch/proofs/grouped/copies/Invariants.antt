use Rattle.hv_sketch.specs.Groups.{AreMade, IsCopy, OfPlace}
use Rattle.hv_sketch.proofs.grouped.copies.Given as goal

abbrev pub invariant-loop-summary : goal.invariant-loop-summary
invariant-loop-summary g l =
    AreMade (λ place t. OfPlace l.summaries place (λ s. IsCopy (g.V.Vizketch.stands l.view) s t)) l.summary-index l.made.items
