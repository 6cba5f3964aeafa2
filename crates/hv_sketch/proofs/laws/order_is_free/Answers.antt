use Rattle.hv_sketch.proofs.AnyOrder.{in_any_order}
use Rattle.hv_sketch.proofs.laws.order_is_free.Goals as goal

pub returns : goal.returns
returns g c = λ xs ys order h.
    let stands = g.V.Vizketch.stands c.args.view.now in
    let summary = c.args.summary.now in
    in_any_order (λ rows. stands rows summary) (λ a b d. g.met.V.Vizketch.any_order c.args.view.now a b d summary) xs ys order h
