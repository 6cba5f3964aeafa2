-- Whether a predicate holds of the cells of a row: this project's own rule.
use Rattle.std.specs.Prelude.{List, Bool, true, false, not}
use Rattle.std.specs.List.{list_all, list_any}
use Rattle.std.specs.Ordering.{is_eq, is_ne, is_lt, is_le, is_gt, is_ge}
use Rattle.std.specs.declared.cmp.Ordering.{Ordering}
use Rattle.hv_value.specs.declared.cell.Cell.{Cell}
use Rattle.hv_value.specs.declared.cell.Cell.TheVariants as cell
use Rattle.hv_value.specs.Order.{compare_cells}
use Rattle.hv_value.specs.Schema.{Columns}
use Rattle.hv_expr.specs.declared.pred.Rel.{Rel}
use Rattle.hv_expr.specs.declared.pred.Rel.TheVariants as rel
use Rattle.hv_expr.specs.declared.pred.Pred.{Pred, fold-Pred}
use Rattle.hv_expr.specs.declared.pred.Pred.TheOpen.{Pred-F}
use Rattle.hv_expr.specs.declared.text_test.TextTest.{TextTest}
use Rattle.hv_expr.specs.TextTests.{meets}
use Rattle.hv_expr.specs.Values.{cell_named}

-- whether two cells that compare so are in the relation
abbrev pub relates : Rel → Ordering → Bool
relates rel.Lt order = is_lt order
relates rel.Le order = is_le order
relates rel.Eq order = is_eq order
relates rel.Ne order = is_ne order
relates rel.Ge order = is_ge order
relates rel.Gt order = is_gt order

-- whether a cell isn't missing and is in the relation to another
abbrev pub is_related : Rel → Cell → Cell → Bool
is_related how to cell.Missing = false
is_related how to c = relates how (compare_cells c to)

abbrev pub is_missing : Cell → Bool
is_missing cell.Missing = true
is_missing _ = false

-- whether a cell is a text that meets a test
abbrev pub cell_meets : TextTest → Cell → Bool
cell_meets test (cell.Text text) = meets test text
cell_meets test _ = false

-- whether a node holds, of whether its parts do
abbrev pub node_holds : Columns → List Cell → Pred-F Bool → Bool
node_holds columns cells (Pred-F.Cmp col how to) = is_related how to (cell_named columns cells col)
node_holds columns cells (Pred-F.Missing col) = is_missing (cell_named columns cells col)
node_holds columns cells (Pred-F.Match col test) = cell_meets test (cell_named columns cells col)
node_holds columns cells (Pred-F.And parts) = list_all (λ part. part) parts
node_holds columns cells (Pred-F.Or parts) = list_any (λ part. part) parts
node_holds columns cells (Pred-F.Not of) = not of

-- whether a predicate holds of the cells of the columns
unfoldable pub holds : Columns → List Cell → Pred → Bool
holds columns cells = fold-Pred Bool (node_holds columns cells)
