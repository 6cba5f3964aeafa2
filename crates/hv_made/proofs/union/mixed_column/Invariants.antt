use Rattle.std.proofs.Common.{◌≡◌, ◌<◌, ℕ, length}
use Rattle.hv_value.specs.Cells.{cell_at}
use Rattle.hv_member.specs.Sets.{is_in, next_from}
use Rattle.hv_made.specs.Steps.{chosen_cell}
use Rattle.hv_made.proofs.union.mixed_column.Given as goal

abbrev pub invariant-loop-row : goal.invariant-loop-row
invariant-loop-row l = record {
  kind_is : l.column.kind ≡ l.left.kind;
  length_is : length l.column.cells ≡ l.row;
  values : (n : ℕ) → n < l.row → cell_at l.column.cells n ≡ chosen_cell l.left l.right n (is_in n l.held.rows) (is_in n l.alone.rows);
  left_next : l.next_left ≡ next_from l.row l.held.rows;
  right_next : l.next_right ≡ next_from l.row l.alone.rows;
}
