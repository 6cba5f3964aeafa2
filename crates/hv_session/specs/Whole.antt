-- What holds of all the rows of a lineage, where the contents that it needs are told.
use Rattle.std.specs.Prelude.{◌≡◌, List, Some}
use Rattle.hv_value.specs.Rows.{Row}
use Rattle.hv_lineage.specs.Flat.{Told, whole_rows}
use Rattle.hv_lineage.specs.Lineages.{TermOver, lineage_columns}
use Rattle.hv_view.specs.declared.plan.Plan.{Plan}
use Rattle.hv_view.specs.declared.shown.Shown.{Shown}
use Rattle.hv_view.specs.Plans.{AreRowsUnder, IsFirstValue, IsSecondValue}

-- the rows are told, each of them has a cell for each column, and this holds of them
pub record IsWhole (told : Told) (lineage : TermOver) (Holds : List Row → Type 0) : Type 0 where
  pub rows : List Row
  pub is : whole_rows told lineage ≡ Some rows
  pub under : AreRowsUnder (lineage_columns lineage) rows
  pub holds : Holds rows

-- the value is that of the plan's first view over rows under the lineage's columns
abbrev pub IsFirstOf : Plan → TermOver → Shown → List Row → Type 0
IsFirstOf plan lineage first rows = IsFirstValue plan (lineage_columns lineage) rows first

-- the value is that of the view that follows the first value, over rows under the lineage's columns
abbrev pub IsSecondOf : Plan → TermOver → Shown → Shown → List Row → Type 0
IsSecondOf plan lineage first second rows = IsSecondValue plan (lineage_columns lineage) first rows second
