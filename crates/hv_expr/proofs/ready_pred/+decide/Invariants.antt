use Rattle.std.proofs.Common.{◌≡◌, true, false, Some, take}
use Rattle.std.specs.List.{list_all, list_any}
use Rattle.hv_value.specs.Rows.{Row}
use Rattle.hv_value.specs.Table.{row_from}
use Rattle.hv_expr.specs.Ready.{ready_holds}
use Rattle.hv_expr.proofs.ready_pred.+decide.Given as goal

abbrev pub invariant-all_hold-loop-part : goal.invariant-all_hold-loop-part
invariant-all_hold-loop-part g l =
    (found : Row) → row_from l.row (g.T.Table.rows l.table) ≡ Some found → list_all (ready_holds found.cells) (take l.part-index l.parts) ≡ true

abbrev pub invariant-one_holds-loop-part : goal.invariant-one_holds-loop-part
invariant-one_holds-loop-part g l =
    (found : Row) → row_from l.row (g.T.Table.rows l.table) ≡ Some found → list_any (ready_holds found.cells) (take l.part-index l.parts) ≡ false
