use Rattle.std.proofs.Common.{◌≡◌, ◌≤◌, ◌-◌, length, Some}
use Rattle.hv_value.specs.Rows.{Row}
use Rattle.hv_value.specs.Table.{row_from}
use Rattle.hv_next.specs.Next.{compare_rows, one_row}
use Rattle.hv_next.proofs.PlaceFacts.{IsBetween}
use Rattle.hv_next.proofs.add_key.place_of.Given as goal

-- the keys before the one end are below the row's, and those from the other end on above it
abbrev pub invariant-loop-low : goal.invariant-loop-low
invariant-loop-low g l =
    record {
      ordered : l.low ≤ l.high;
      within : l.high ≤ length l.rows;
      parted : (found : Row) → row_from l.row (g.T.Table.rows l.table) ≡ Some found
          → IsBetween (compare_rows l.order) (one_row l.order found) l.rows l.low l.high;
    }

abbrev pub decreases-loop-low : goal.decreases-loop-low
decreases-loop-low g l = l.high - l.low
