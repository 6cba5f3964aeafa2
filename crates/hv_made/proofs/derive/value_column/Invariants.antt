use Rattle.std.proofs.Common.{◌≡◌, ◌<◌, ℕ, Some, length}
use Rattle.hv_value.specs.Cells.{cell_at}
use Rattle.hv_expr.specs.Checks.{kind_of}
use Rattle.hv_expr.specs.Ready.{IsReadyExpr}
use Rattle.hv_made.specs.Steps.{value_in}
use Rattle.hv_made.proofs.derive.value_column.Given as goal

abbrev pub invariant-loop-row : goal.invariant-loop-row
invariant-loop-row l = record {
  kind : kind_of l.table.columns l.expr ≡ Some l.column.kind;
  length_is : length l.column.cells ≡ l.row;
  values : (n : ℕ) → n < l.row → cell_at l.column.cells n ≡ value_in l.table l.expr n;
  prepared : IsReadyExpr l.table.columns l.expr l.ready;
}
