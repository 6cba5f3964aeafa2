use Rattle.std.proofs.Common.{◌∙◌, ap, subst, sym}
use Rattle.hv_view.specs.declared.plan.Plan.TheVariants as plan
use Rattle.hv_view.specs.declared.shown.Shown.TheVariants as shown
use Rattle.hv_view.specs.Frequent.{IsFrequent}
use Rattle.hv_view.specs.Plans.{IsFirstValue, IsNextValue}
use Rattle.hv_view.proofs.PlanFacts.{concluded-auto, concluded-frequent}
use Rattle.hv_view.proofs.plan.conclude.Goals as goal

pub returns-in_ok-between-in-AutoHistogram-Range-Histogram-clause-value : goal.returns-in_ok-between-in-AutoHistogram-Range-Histogram-clause-value
returns-in_ok-between-in-AutoHistogram-Range-Histogram-clause-value c = λ columns whole rows fit first second.
    let found = c.in-AutoHistogram-Range-Histogram in
    let ranged : IsFirstValue (plan.AutoHistogram found.col-0 found.n-0) columns whole (shown.Range found.count-1 found.max found.min found.missing-1 found.sum-1) = rw (found.is-0, found.is-1) at first in
    let follows : IsNextValue (plan.AutoHistogram found.col-0 found.n-0) columns (shown.Range found.count-1 found.max found.min found.missing-1 found.sum-1) rows (shown.Histogram found.histogram) = rw (found.is-0, found.is-1, found.is-2) at second in
    rw found.is-0
    (ap shown.Auto (c.in_ok-between-in-AutoHistogram-Range-Histogram.ensures
    ∙ concluded-auto columns found.col-0 found.n-0 whole found.count-1 found.max found.min found.missing-1 found.sum-1 ranged rows found.histogram follows))

pub returns-in_ok-value-in-Frequent-Heavy-CountOf-clause-value : goal.returns-in_ok-value-in-Frequent-Heavy-CountOf-clause-value
returns-in_ok-value-in-Frequent-Heavy-CountOf-clause-value c = λ columns whole rows fit first second.
    let found = c.in-Frequent-Heavy-CountOf in
    let heavy : IsFirstValue (plan.Frequent found.col-0 found.k) columns whole (shown.Heavy found.found) = rw (found.is-0, found.is-1) at first in
    let follows : IsNextValue (plan.Frequent found.col-0 found.k) columns (shown.Heavy found.found) rows (shown.CountOf found.counted) = rw (found.is-0, found.is-1, found.is-2) at second in
    rw found.is-0
    (λ same. rw (c.in_ok-value-in-Frequent-Heavy-CountOf.ensures, c.as_slice.ensures)
    (concluded-frequent columns found.col-0 found.k whole rows found.found found.counted heavy follows same))
