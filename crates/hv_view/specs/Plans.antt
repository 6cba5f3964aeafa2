-- Plans: a value that takes one view, or a second one that depends on the value of the first. One case a plan.
use Rattle.std.specs.Prelude.{◌≡◌, ◌<◌, ◌≤◌, ⊤, ℕ, Bool, true, false, List, length, Option, Some, None}
use Rattle.std.specs.List.{AllByRecursion}
use Rattle.hv_value.specs.declared.cell.Cell.{Cell}
use Rattle.hv_value.specs.declared.cell.Kind.{Kind}
use Rattle.hv_value.specs.declared.cell.Kind.TheVariants as kind
use Rattle.hv_value.specs.Rows.{Row}
use Rattle.hv_value.specs.Schema.{Columns}
use Rattle.hv_value.specs.Table.{have_kinds}
use Rattle.hv_bucket.specs.declared.buckets.Axis.{Axis}
use Rattle.hv_sketch.specs.ColumnCells.{is_missing}
use Rattle.hv_sketch.specs.Columns.{IsColumnOf, kind_at}
use Rattle.hv_view.specs.declared.any_view.AnyView.{AnyView}
use Rattle.hv_view.specs.declared.any_view.AnyView.TheVariants as view
use Rattle.hv_view.specs.declared.plan.Plan.{Plan}
use Rattle.hv_view.specs.declared.plan.Plan.TheVariants as plan
use Rattle.hv_view.specs.declared.plan.Second.{Second}
use Rattle.hv_view.specs.declared.plan.Second.TheVariants as next
use Rattle.hv_view.specs.declared.shown.Shown.{Shown}
use Rattle.hv_view.specs.declared.shown.Shown.TheVariants as shown
use Rattle.hv_view.specs.Auto.{auto_axis, auto_of, between, without_buckets}
use Rattle.hv_view.specs.Frequent.{IsFrequent, frequent_among, pair_values}
use Rattle.hv_view.specs.Stands.{FitsAny}
use Rattle.hv_view.specs.View.{IsView}

-- whether a column has whole numbers or days
abbrev pub has_numbers : Option Kind → Bool
has_numbers None = false
has_numbers (Some kind.Int) = true
has_numbers (Some kind.Date) = true
has_numbers (Some kind.Text) = false

-- the column has whole numbers or days, for 1 to 1,024 buckets
pub record FitsAuto (col n : ℕ) (columns : Columns) : Type 0 where
  pub numbers : has_numbers (kind_at columns col) ≡ true
  pub some : 1 ≤ n
  pub few : n ≤ 1024

-- the column is there, for 1 to 1,000 values
pub record FitsFrequent (col k : ℕ) (columns : Columns) : Type 0 where
  pub there : col < length columns
  pub some : 1 ≤ k
  pub few : k ≤ 1000

-- the plan is right for the columns: what it reads is there, of a kind that it takes, and its numbers are within their limits
abbrev pub FitsPlan : Plan → Columns → Type 0
FitsPlan (plan.One own) columns = FitsAny own columns
FitsPlan (plan.AutoHistogram col n) columns = FitsAuto col n columns
FitsPlan (plan.Frequent col k) columns = FitsFrequent col k columns

-- the view is the range of the column
abbrev pub IsRangeAt : Columns → ℕ → AnyView → Type 0
IsRangeAt columns col v = (k : Kind) × IsColumnOf columns col k × (v ≡ view.Range (record { col = col; kind = k }))

-- the view with which the plan begins: the range of the column, its heavy hitters
abbrev pub IsFirstView : Plan → Columns → AnyView → Type 0
IsFirstView (plan.One own) columns v = v ≡ own
IsFirstView (plan.AutoHistogram col n) columns v = IsRangeAt columns col v
IsFirstView (plan.Frequent col k) columns v = v ≡ view.Heavy (record { col = col; k = k })

-- each row has one cell a column, missing or of its kind
abbrev pub AreRowsUnder : Columns → List Row → Type 0
AreRowsUnder columns rows = AllByRecursion (λ row. have_kinds columns row.cells ≡ true) rows

-- the value is that of the plan's first view over the rows
pub record IsFirstValue (p : Plan) (columns : Columns) (rows : List Row) (value : Shown) : Type 0 where
  pub view : AnyView
  pub begins : IsFirstView p columns view
  pub under : AreRowsUnder columns rows
  pub shown : IsView view rows value

-- the range is of a column without a value
abbrev pub HasNoValue : Shown → Type 0
HasNoValue (shown.Range count greatest least missing sum) = is_missing least ≡ true
HasNoValue _ = ⊥

-- whether the first value is all that the plan needs
abbrev pub EndsAtFirst : Plan → Shown → Type 0
EndsAtFirst (plan.One own) first = ⊤
EndsAtFirst (plan.AutoHistogram col n) first = HasNoValue first
EndsAtFirst (plan.Frequent col k) first = ⊥

-- the histogram of an axis, or the value without one
abbrev pub auto_next : Option Axis → Cell → Cell → ℕ → Second
auto_next None least greatest missing = next.Value (shown.Auto (without_buckets least greatest missing))
auto_next (Some axis) least greatest missing = next.View (view.Histogram (record { axis = axis }))

-- the histogram between the ends of a range follows, or the value without one
abbrev pub FollowsRange : ℕ → ℕ → Shown → Second → Type 0
FollowsRange col n (shown.Range count greatest least missing sum) after = after ≡ auto_next (auto_axis col n least greatest) least greatest missing
FollowsRange col n _ after = ⊥

-- the counts of the values of heavy hitters follow
abbrev pub FollowsHeavy : ℕ → Shown → Second → Type 0
FollowsHeavy col (shown.Heavy found) after = after ≡ next.View (view.CountOf (record { col = col; values = pair_values found.pairs }))
FollowsHeavy col _ after = ⊥

-- what follows the first value: the plan's value, or its second view
abbrev pub IsNext : Plan → Columns → Shown → Second → Type 0
IsNext (plan.One own) columns first after = after ≡ next.Value first
IsNext (plan.AutoHistogram col n) columns first after = FollowsRange col n first after
IsNext (plan.Frequent col k) columns first after = FollowsHeavy col first after

-- the view that follows, where there is one
abbrev pub view_next : Second → Option AnyView
view_next (next.View view) = Some view
view_next (next.Value value) = None

-- the value that follows, where there is one
abbrev pub value_next : Second → Option Shown
value_next (next.View view) = None
value_next (next.Value value) = Some value

-- the value is that of the view that follows the first value, over the rows
pub record IsNextValue (p : Plan) (columns : Columns) (first : Shown) (rows : List Row) (value : Shown) : Type 0 where
  pub view : AnyView
  pub follows : IsNext p columns first (next.View view)
  pub shown : IsView view rows value

-- the second value is such a one; with one view, it is that view's own
abbrev pub IsSecondValue : Plan → Columns → Shown → List Row → Shown → Type 0
IsSecondValue (plan.One own) columns first rows value = IsView own rows value
IsSecondValue p columns first rows value = IsNextValue p columns first rows value

-- a histogram with the ends of a range
abbrev pub IsBetweenEnds : Shown → Shown → Shown → Type 0
IsBetweenEnds (shown.Range count greatest least missing sum) (shown.Histogram histogram) value = value ≡ shown.Auto (between least greatest histogram)
IsBetweenEnds _ _ value = ⊥

-- the frequent ones among heavy hitters, with their counts
abbrev pub AreFrequentAmong : ℕ → Shown → Shown → Shown → Type 0
AreFrequentAmong k (shown.Heavy found) (shown.CountOf counted) value = value ≡ shown.Frequent (frequent_among k (pair_values found.pairs) counted)
AreFrequentAmong k _ _ value = ⊥

-- what is made of both values
abbrev pub IsConclusion : Plan → Shown → Shown → Shown → Type 0
IsConclusion (plan.One own) first second value = value ≡ second
IsConclusion (plan.AutoHistogram col n) first second value = IsBetweenEnds first second value
IsConclusion (plan.Frequent col k) first second value = AreFrequentAmong k first second value

-- the value is the frequent values of the column over the rows
abbrev pub AreFrequent : ℕ → ℕ → List Row → Shown → Type 0
AreFrequent col k rows (shown.Frequent value) = IsFrequent col k rows value
AreFrequent col k rows _ = ⊥

-- the value is the plan's over the rows, where the first view's is over the whole. Frequent values are said of the whole alone
abbrev pub OfPlan : Plan → List Row → List Row → Shown → Type 0
OfPlan (plan.One own) whole rows value = IsView own rows value
OfPlan (plan.AutoHistogram col n) whole rows value = value ≡ shown.Auto (auto_of col n whole rows)
OfPlan (plan.Frequent col k) whole rows value = rows ≡ whole → AreFrequent col k rows value
