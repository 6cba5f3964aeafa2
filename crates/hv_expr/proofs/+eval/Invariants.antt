use Rattle.std.proofs.Common.{◌≡◌, true, false, Some, take}
use Rattle.std.specs.List.{list_all, list_any}
use Rattle.hv_value.specs.Rows.{Row}
use Rattle.hv_value.specs.Table.{row_from}
use Rattle.hv_expr.specs.Holds.{holds}
use Rattle.hv_expr.proofs.+eval.Given as goal

abbrev pub invariant-eval::all_hold-loop-part : goal.invariant-eval::all_hold-loop-part
invariant-eval::all_hold-loop-part g l =
    (found : Row) → row_from l.row (g.T.Table.rows l.table) ≡ Some found → list_all (holds (g.T.Table.columns l.table) found.cells) (take l.part-index l.parts) ≡ true

abbrev pub invariant-eval::one_holds-loop-part : goal.invariant-eval::one_holds-loop-part
invariant-eval::one_holds-loop-part g l =
    (found : Row) → row_from l.row (g.T.Table.rows l.table) ≡ Some found → list_any (holds (g.T.Table.columns l.table) found.cells) (take l.part-index l.parts) ≡ false
