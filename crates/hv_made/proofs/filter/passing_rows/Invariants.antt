use Rattle.std.proofs.Common.{◌≡◌, ◌++◌, length, leb}
use Rattle.std.specs.List.{filter}
use Rattle.hv_column.specs.Rows.{cells_across}
use Rattle.hv_expr.specs.Holds.{holds}
use Rattle.hv_expr.specs.Ready.{IsReadyPred}
use Rattle.hv_made.specs.Steps.{passing}
use Rattle.hv_made.proofs.filter.passing_rows.Given as goal

abbrev pub invariant-loop-row : goal.invariant-loop-row
invariant-loop-row l = record {
  sofar : l.kept ++ filter (λ n. holds l.table.columns (cells_across l.table.cols n) l.pred) (filter (leb l.from) l.table.member.rows)
      ≡ passing l.pred l.table;
  prepared : IsReadyPred l.table.columns l.pred l.ready;
}

abbrev pub decreases-loop-row : goal.decreases-loop-row
decreases-loop-row l = length (filter (leb l.from) l.table.member.rows)
