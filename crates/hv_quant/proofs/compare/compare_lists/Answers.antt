use Rattle.std.proofs.Common.{sym, ◌∙◌, arith}
use Rattle.hv_next.specs.KeyPlaces.{compare_at}
use Rattle.hv_next.proofs.KeyFacts.{apart, at_end, level}
use Rattle.hv_quant.proofs.compare.compare_lists.Goals as goal

pub returns : goal.returns
returns c =
    c.cmp.ensures ∙ at_end c.loop-place.place c.args.keys.now c.args.a.now c.args.b.now (omega arith) (omega arith) (omega arith)
    ∙ c.loop-place.invariant

pub returns-then-is_ne : goal.returns-then-is_ne
returns-then-is_ne c =
    apart c.args.keys.now c.args.a.now c.args.b.now c.loop-place.place _ _ (omega arith) (omega arith) c.compare_at-found.result
    (c.compare_at-found.ensures ∙ (λ i. compare_at c.args.keys.now c.loop-place.place (c.index-a-place.is i) (c.index-b-place.is i)))
    (sym c.is_ne.ensures ∙ c.if-is_ne.true)
    ∙ c.loop-place.invariant

pub loop-place-preserved : goal.loop-place-preserved
loop-place-preserved c =
    level c.args.keys.now c.args.a.now c.args.b.now c.loop-place.place _ _ (omega arith) (omega arith) c.compare_at-found.result
    (c.compare_at-found.ensures ∙ (λ i. compare_at c.args.keys.now c.loop-place.place (c.index-a-place.is i) (c.index-b-place.is i)))
    (sym c.is_ne.ensures ∙ c.if-is_ne.false)
    ∙ c.loop-place.invariant
