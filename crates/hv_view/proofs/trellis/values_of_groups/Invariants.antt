use Rattle.std.proofs.Common.{◌≡◌, ℕ, List, Option}
use Rattle.hv_value.specs.Rows.{Row}
use Rattle.hv_sketch.specs.Groups.{StandForEach}
use Rattle.hv_view.specs.View.{of_each_group}
use Rattle.hv_view.proofs.trellis.values_of_groups.Given as goal

-- so far there are the values of as many groups
abbrev pub invariant-loop-summary : goal.invariant-loop-summary
invariant-loop-summary g l = (group : Row → Option ℕ) (count : ℕ) (rows : List Row)
    → StandForEach group count (g.V.Vizketch.stands l.view) rows l.summaries
    → l.values ≡ of_each_group group l.summary-index (g.V.Inner.value_of l.view) rows
