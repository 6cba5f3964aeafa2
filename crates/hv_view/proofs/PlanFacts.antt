-- What the first and the second value of a plan of two views say.
use Rattle.std.proofs.Common.{◌≡◌, ◌∙◌, ◌↔◌, ◌<◌, refl, sym, ap, subst, ℕ, zero, suc, ℤ, List, [], ◌∷◌, length, true, Option, Some, None, IsSome, arith}
use Rattle.hv_value.specs.declared.cell.Cell.{Cell}
use Rattle.hv_value.specs.declared.cell.Kind.{Kind}
use Rattle.hv_value.specs.Rows.{Row}
use Rattle.hv_value.specs.Schema.{Columns}
use Rattle.hv_bucket.specs.declared.buckets.Axis.{Axis}
use Rattle.hv_heavy.specs.declared.count_of.CountShown.{CountShown}
use Rattle.hv_heavy.specs.declared.summary.HeavySummary.{HeavySummary}
use Rattle.hv_heavy.specs.CountOf.{counts_of, fits_count}
use Rattle.hv_heavy.specs.Heavy.{IsHeavy}
use Rattle.hv_hist.specs.declared.shown.HistogramShown.{HistogramShown}
use Rattle.hv_hist.specs.Histogram.{histogram_of}
use Rattle.hv_range.specs.Range.{range_of}
use Rattle.hv_sketch.specs.ColumnCells.{is_missing}
use Rattle.hv_sketch.specs.Columns.{IsColumnOf}
use Rattle.hv_view.specs.declared.any_view.AnyView.{AnyView}
use Rattle.hv_view.specs.declared.any_view.AnyView.TheVariants as view
use Rattle.hv_view.specs.declared.plan.Plan.TheVariants as plan
use Rattle.hv_view.specs.declared.plan.Second.{Second}
use Rattle.hv_view.specs.declared.plan.Second.TheVariants as next
use Rattle.hv_view.specs.declared.shown.Shown.{Shown}
use Rattle.hv_view.specs.declared.shown.Shown.TheVariants as shown
use Rattle.hv_view.specs.Auto.{auto_axis, auto_of, auto_over, between, do_rise}
use Rattle.hv_view.specs.Frequent.{IsFrequent, frequent_among, pair_values}
use Rattle.hv_view.specs.Plans.{FitsAuto, HasNoValue, IsFirstValue, IsNextValue, auto_next, has_numbers, value_next}
use Rattle.hv_view.specs.View.{IsView, range_shown}
use Rattle.hv_view.proofs.AutoFacts.{AreEnds, at-once, column-cells, column-ends, do-rise}
use Rattle.hv_view.proofs.FrequentFacts.{all-frequent, heavy-values}

module _ (columns : Columns) (col n : ℕ) (rows : List Row) (count : ℕ) (greatest least : Cell) (missing : ℕ) (sum : Option ℤ)
    (first : IsFirstValue (plan.AutoHistogram col n) columns rows (shown.Range count greatest least missing sum)) where
  -- the first value is the range
  is-range : shown.Range count greatest least missing sum ≡ range_shown first.begins.0 (range_of col rows)
  is-range = subst (λ v. IsView v rows (shown.Range count greatest least missing sum)) first.begins.2 first.shown

  least-is : least ≡ (range_of col rows).least
  least-is = cc is-range

  greatest-is : greatest ≡ (range_of col rows).greatest
  greatest-is = cc is-range

  numbers : FitsAuto col n columns → has_numbers (Some first.begins.0) ≡ true
  numbers fit = subst (λ k. has_numbers k ≡ true) first.begins.1 fit.numbers

  -- its ends
  ends : FitsAuto col n columns → AreEnds first.begins.0 least greatest
  ends fit = rw (least-is, greatest-is) (column-ends columns col first.begins.0 rows first.begins.1 (numbers fit) first.under)

  -- rise
  pub first-rises : FitsAuto col n columns → do_rise least greatest ≡ true
  first-rises fit = do-rise first.begins.0 col n missing least greatest (ends fit)

  -- no second view follows exactly where they are missing
  pub first-ends : FitsAuto col n columns → IsSome (value_next (auto_next (auto_axis col n least greatest) least greatest missing)) ↔ (is_missing least ≡ true)
  first-ends fit = at-once first.begins.0 col n missing least greatest (numbers fit) (ends fit)

  -- with the histogram that follows, it makes the plan's value
  pub concluded-auto : (more : List Row) (histogram : HistogramShown)
      → IsNextValue (plan.AutoHistogram col n) columns (shown.Range count greatest least missing sum) more (shown.Histogram histogram)
      → between least greatest histogram ≡ auto_of col n rows more
  concluded-auto more histogram second =
      by (auto_axis col n least greatest) second.follows
      ∙ (λ i. auto_over col (auto_axis col n (least-is i) (greatest-is i)) (least-is i) (greatest-is i) more)
    where
      by : (axis : Option Axis) → next.View second.view ≡ auto_next axis least greatest missing
          → between least greatest histogram ≡ auto_over col axis least greatest more
      by None follows = absurd (cc follows)
      by (Some axis) follows =
          let viewed : second.view ≡ view.Histogram (record { axis = axis }) = cc follows in
          let is : shown.Histogram histogram ≡ shown.Histogram (histogram_of axis more) = subst (λ v. IsView v more (shown.Histogram histogram)) viewed second.shown in
          let made : histogram ≡ histogram_of axis more = cc is in
          ap (between least greatest) made

-- a column that is there has a kind
kind-there : (columns : Columns) (col : ℕ) → col < length columns → (k : Kind) × IsColumnOf columns col k
kind-there [] col within = absurd (omega (arith, within))
kind-there (column ∷ columns) zero within = (column.1, refl)
kind-there (column ∷ columns) (suc col) within = kind-there columns col (omega (arith, within))

-- the counts of the values of heavy hitters fit the columns
pub heavy-fits : (columns : Columns) (col k : ℕ) (rows : List Row) (found : HeavySummary) → col < length columns
    → IsFirstValue (plan.Frequent col k) columns rows (shown.Heavy found) → fits_count columns col (pair_values found.pairs) ≡ true
heavy-fits columns col k rows found there first =
    let heavy : IsHeavy col k rows found = subst (λ v. IsView v rows (shown.Heavy found)) first.begins first.shown in
    let kind = kind-there columns col there in
    rw kind.1 (heavy-values kind.0 col k rows found (column-cells columns col kind.0 rows kind.1 first.under) heavy)

-- heavy hitters of rows and the counts of their values make the frequent ones
pub concluded-frequent : (columns : Columns) (col k : ℕ) (whole rows : List Row) (found : HeavySummary) (counted : CountShown)
    → IsFirstValue (plan.Frequent col k) columns whole (shown.Heavy found)
    → IsNextValue (plan.Frequent col k) columns (shown.Heavy found) rows (shown.CountOf counted)
    → rows ≡ whole → IsFrequent col k rows (frequent_among k (pair_values found.pairs) counted)
concluded-frequent columns col k whole rows found counted first second same =
    let heavy : IsHeavy col k whole found = subst (λ v. IsView v whole (shown.Heavy found)) first.begins first.shown in
    let viewed : second.view ≡ view.CountOf (record { col = col; values = pair_values found.pairs }) = cc second.follows in
    let is : shown.CountOf counted ≡ shown.CountOf (counts_of col (pair_values found.pairs) rows) = subst (λ v. IsView v rows (shown.CountOf counted)) viewed second.shown in
    let made : counted ≡ counts_of col (pair_values found.pairs) rows = cc is in
    subst (λ c. IsFrequent col k rows (frequent_among k (pair_values found.pairs) c)) (sym made)
    (all-frequent col k rows found (subst (λ r. IsHeavy col k r found) (sym same) heavy))
