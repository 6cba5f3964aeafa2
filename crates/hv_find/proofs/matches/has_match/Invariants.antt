use Rattle.std.proofs.Common.{◌≡◌, false, Some, take}
use Rattle.std.specs.List.{list_any}
use Rattle.hv_value.specs.Cells.{cell_at}
use Rattle.hv_value.specs.Rows.{Row}
use Rattle.hv_value.specs.Table.{row_from}
use Rattle.hv_expr.specs.Holds.{cell_meets}
use Rattle.hv_expr.specs.Ready.{IsReadyTest}
use Rattle.hv_expr.specs.declared.text_test.TextTest.{TextTest}
use Rattle.hv_find.proofs.matches.has_match.Given as goal

-- no cell so far is a text that meets the test
abbrev pub invariant-loop-col : goal.invariant-loop-col
invariant-loop-col g l =
    (test : TextTest) (found : Row) → IsReadyTest test l.ready → row_from l.row (g.T.Table.rows l.table) ≡ Some found
    → list_any (λ col. cell_meets test (cell_at found.cells col)) (take l.col-index l.cols) ≡ false
