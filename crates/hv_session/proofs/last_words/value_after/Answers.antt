use Rattle.std.proofs.Common.{List, subst, sym}
use Rattle.std.specs.Prelude.{IfSome}
use Rattle.hv_value.specs.Rows.{Row}
use Rattle.hv_view.specs.Plans.{IsFirstValue, IsNext, IsSecondValue, OfPlan, value_next}
use Rattle.hv_session.proofs.ValueLemmas.{second-value, untold}
use Rattle.hv_session.proofs.last_words.value_after.Goals as goal

-- the first view's value is that of the rows of the whole table
pub then-requires-clause-shown : goal.then-requires-clause-shown
then-requires-clause-shown c =
    let whole = c.requires.whole untold in
    (whole.rows, subst (λ columns. IsFirstValue c.args.plan.now columns whole.rows c.args.first.now) (sym c.schema.ensures.value) whole.holds)

-- it is all that the plan needs
pub returns-in-Value : goal.returns-in-Value
returns-in-Value c = λ told.
    let plan = c.args.plan.now in
    let first = c.args.first.now in
    let whole = c.requires.whole told in
    let columns = c.schema.result.now in
    let shown = subst (λ cs. IsFirstValue plan cs whole.rows first) (sym c.schema.ensures.value) whole.holds in
    let value = subst (λ next. IfSome (value_next next) (λ v. (rows : List Row) → IsFirstValue plan columns rows first → OfPlan plan rows rows v))
    c.in-Value.is c.in_ok-next.ensures.value in
    record { rows = whole.rows; is = whole.is; under = whole.under; holds = value whole.rows shown }

-- the second view's value is that of the rows of the whole table
pub concluded-requires-clause-second : goal.concluded-requires-clause-second
concluded-requires-clause-second c = λ told.
    let plan = c.args.plan.now in
    let first = c.args.first.now in
    let columns = c.schema.result.now in
    let value = c.in_ok-second-in-View.field-0 in
    let whole = c.in_ok-second-in-View.ensures told in
    let follows = subst (λ next. IsNext plan columns first next) c.in-View.is c.in_ok-next.ensures.next in
    let second = second-value plan columns first c.in-View.view whole.rows value follows whole.holds in
    record { rows = whole.rows; is = whole.is; under = whole.under; holds = subst (λ cs. IsSecondValue plan cs first whole.rows value) c.schema.ensures.value second }
