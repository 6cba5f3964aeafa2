use Rattle.std.proofs.Common.{◌≡◌, ℕ, List, [], ◌++◌, map, append-nil, arith, refl, ap, sym, ◌∙◌}
use Rattle.std.proofs.lemmas.Grind.{common_steps}
use Rattle.serde_json.specs.Data.{Data}
use Rattle.serde_json.specs.View.{view}
use Rattle.serde_json.proofs.Views.{view-Array}
use Rattle.hv_reply.specs.Values.{list_of, whole}
use Rattle.hv_reply.proofs.PartLemmas.{Stepped, rest_from, rest-none, rest-zero, step_to}
use Rattle.hv_reply.proofs.replies.parts_value.Goals as goal

pub overflow_add-from : goal.overflow_add-from
overflow_add-from c =
    let step : Stepped c.args.parts.now.size c.loop-part.from c.in-Some.part c.args.parts.now.parts
    = step_to c.args.parts.now.size c.loop-part.from c.args.parts.now.parts c.in-Some.part c.count.ensures.set (sym c.in-Some.ensures) in
    grind (arith, step.high, c.count.ensures.small)

pub loop-part-smaller : goal.loop-part-smaller
loop-part-smaller c =
    let step : Stepped c.args.parts.now.size c.loop-part.from c.in-Some.part c.args.parts.now.parts
    = step_to c.args.parts.now.size c.loop-part.from c.args.parts.now.parts c.in-Some.part c.count.ensures.set (sym c.in-Some.ensures) in
    grind (arith, step.low, step.high)

pub loop-part-preserved : goal.loop-part-preserved
loop-part-preserved c =
    let step : Stepped c.args.parts.now.size c.loop-part.from c.in-Some.part c.args.parts.now.parts
    = step_to c.args.parts.now.size c.loop-part.from c.args.parts.now.parts c.in-Some.part c.count.ensures.set (sym c.in-Some.ensures) in
    grind (arith, common_steps, step.first)

pub loop-part-init : goal.loop-part-init
loop-part-init c = rw (c.in_ok-numbers.ensures.items, rest-zero c.args.parts.now.parts) refl

pub returns : goal.returns
returns c =
    let none : rest_from c.loop-part.from c.args.parts.now.parts ≡ [] = rest-none c.loop-part.from c.args.parts.now.parts (sym c.next.ensures ∙ c.in_default.is) in
    let all : map whole c.args.parts.now.parts ≡ map view c.loop-part.numbers.items
    = c.loop-part.invariant ∙ ap (λ (rest : List ℕ). map view c.loop-part.numbers.items ++ map whole rest) none ∙ append-nil (map view c.loop-part.numbers.items) in
    view-Array c.loop-part.numbers ∙ ap (λ (ds : List Data). list_of ds) (sym all)
