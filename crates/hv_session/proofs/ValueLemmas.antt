-- A plan's value over a whole table, of the values of its views there.
use Rattle.std.proofs.Common.{◌≡◌, ◌∙◌, List, Some, None, sym, subst}
use Rattle.hv_value.specs.Rows.{Row}
use Rattle.hv_value.specs.Schema.{Columns}
use Rattle.hv_lineage.specs.Flat.{Told}
use Rattle.hv_lineage.specs.Lineages.{TermOver, lineage_columns}
use Rattle.hv_view.specs.declared.any_view.AnyView.{AnyView}
use Rattle.hv_view.specs.declared.plan.Plan.{Plan}
use Rattle.hv_view.specs.declared.plan.Plan.TheVariants as plan
use Rattle.hv_view.specs.declared.plan.Second.TheVariants as next
use Rattle.hv_view.specs.declared.shown.Shown.{Shown}
use Rattle.hv_view.specs.Plans.{AreRowsUnder, IsFirstValue, IsFirstView, IsNext, IsSecondValue}
use Rattle.hv_view.specs.View.{IsView}
use Rattle.hv_session.specs.Whole.{IsWhole}

-- nothing is told of any table
abbrev pub untold : Told
untold = λ table part. None

-- the value of a plan's first view over a whole table
pub first-value : (p : Plan) (told : Told) (lineage : TermOver) (columns : Columns) (view : AnyView) (value : Shown) → lineage_columns lineage ≡ columns
    → IsFirstView p columns view → (whole : IsWhole told lineage (λ rows. IsView view rows value)) → IsFirstValue p columns whole.rows value
first-value p told lineage columns view value same begins whole =
    record { view = view; begins = begins; under = subst (λ cols. AreRowsUnder cols whole.rows) same whole.under; shown = whole.holds }

-- the value of the view that follows
pub second-value : (p : Plan) (columns : Columns) (first : Shown) (view : AnyView) (rows : List Row) (value : Shown) → IsNext p columns first (next.View view)
    → IsView view rows value → IsSecondValue p columns first rows value
second-value (plan.One own) columns first view rows value follows shown = absurd (cc follows)
second-value (plan.AutoHistogram col n) columns first view rows value follows shown = record { view = view; follows = follows; shown = shown }
second-value (plan.Frequent col k) columns first view rows value follows shown = record { view = view; follows = follows; shown = shown }

-- two things of one whole table hold of the same rows
pub same-rows : (told : Told) (lineage : TermOver) (P Q : List Row → Type 0) (a : IsWhole told lineage P) (b : IsWhole told lineage Q) → a.rows ≡ b.rows
same-rows told lineage P Q a b = let e : Some a.rows ≡ Some b.rows = sym a.is ∙ b.is in cc e
