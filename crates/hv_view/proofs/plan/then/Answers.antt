use Rattle.std.proofs.Common.{IfSome, IsSome, ◌↔◌, ◌≡◌, true, subst, sym}
use Rattle.std.proofs.lemmas.Result.{IfOk-weaker}
use Rattle.hv_view.specs.declared.plan.Plan.TheVariants as plan
use Rattle.hv_view.specs.declared.shown.Shown.TheVariants as shown
use Rattle.hv_heavy.specs.CountOf.{fits_count}
use Rattle.hv_view.specs.Stands.{FitsAny}
use Rattle.hv_view.specs.Frequent.{pair_values}
use Rattle.hv_view.specs.Plans.{EndsAtFirst, FitsAuto, FitsFrequent, FollowsHeavy, IsFirstValue, value_next, view_next}
use Rattle.hv_view.proofs.PlanFacts.{first-ends, first-rises, heavy-fits}
use Rattle.hv_view.proofs.plan.then.Goals as goal

pub after_range-requires-clause-rise : goal.after_range-requires-clause-rise
after_range-requires-clause-rise c =
    let found = c.in-AutoHistogram-Range in
    let fit : FitsAuto found.col found.n c.args.schema.now = rw found.is-0 at c.requires.fit in
    let first : IsFirstValue (plan.AutoHistogram found.col found.n) c.args.schema.now c.requires.shown.0 (shown.Range found.count-1 found.max found.min found.missing found.sum-1) = rw (found.is-0, found.is-1) at c.requires.shown.1 in
    first-rises c.args.schema.now found.col found.n c.requires.shown.0 found.count-1 found.max found.min found.missing found.sum-1 first fit

pub returns-in-AutoHistogram-Range-clause-at_once : goal.returns-in-AutoHistogram-Range-clause-at_once
returns-in-AutoHistogram-Range-clause-at_once c =
    let found = c.in-AutoHistogram-Range in
    let fit : FitsAuto found.col found.n c.args.schema.now = rw found.is-0 at c.requires.fit in
    let first : IsFirstValue (plan.AutoHistogram found.col found.n) c.args.schema.now c.requires.shown.0 (shown.Range found.count-1 found.max found.min found.missing found.sum-1) = rw (found.is-0, found.is-1) at c.requires.shown.1 in
    IfOk-weaker c.after_range.result _ _
    (λ after is. subst (λ a. IsSome (value_next a) ↔ EndsAtFirst c.args.plan.now c.args.first.now) (sym is) (rw (found.is-0, found.is-1) (first-ends c.args.schema.now found.col found.n c.requires.shown.0 found.count-1 found.max found.min found.missing found.sum-1 first fit)))
    c.after_range.ensures

pub returns-in-Frequent-Heavy-clause-fits : goal.returns-in-Frequent-Heavy-clause-fits
returns-in-Frequent-Heavy-clause-fits c =
    let found = c.in-Frequent-Heavy in
    let fit : FitsFrequent found.col found.k-0 c.args.schema.now = rw found.is-0 at c.requires.fit in
    let first : IsFirstValue (plan.Frequent found.col found.k-0) c.args.schema.now c.requires.shown.0 (shown.Heavy found.found) = rw (found.is-0, found.is-1) at c.requires.shown.1 in
    let fits : fits_count c.args.schema.now found.col (pair_values found.found.pairs) ≡ true = heavy-fits c.args.schema.now found.col found.k-0 c.requires.shown.0 found.found fit.there first in
    IfOk-weaker c.after_heavy.result _ _
    (λ after is. subst (λ a. IfSome (view_next a) (λ v. FitsAny v c.args.schema.now)) (sym is) fits)
    c.after_heavy.ensures
