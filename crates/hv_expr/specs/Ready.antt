-- Prepared forms of tests, predicates and expressions: what they say of cells, and that they say what the tree says that
-- they were made of.
use Rattle.std.specs.Prelude.{◌≡◌, ℕ, length, pos, List, map, Bool, true, false, not, ◌&&◌, nat_lt, bytes_eq, Option, Some, None, if◌then◌else◌}
use Rattle.std.specs.List.{list_all, list_any}
use Rattle.hv_value.specs.declared.cell.Cell.{Cell}
use Rattle.hv_value.specs.declared.cell.Cell.TheVariants as cell
use Rattle.hv_value.specs.Cells.{cell_lent}
use Rattle.hv_value.specs.Schema.{Columns}
use Rattle.hv_expr.specs.declared.expr.Expr.{Expr}
use Rattle.hv_expr.specs.declared.pred.Pred.{Pred}
use Rattle.hv_expr.specs.declared.text_test.TextTest.{TextTest}
use Rattle.hv_expr.specs.declared.operand.Operand.{Operand}
use Rattle.hv_expr.specs.declared.operand.Operand.TheVariants as operand
use Rattle.hv_expr.specs.declared.ready_test.ReadyTest.{ReadyTest}
use Rattle.hv_expr.specs.declared.ready_test.ReadyTest.TheVariants as test
use Rattle.hv_expr.specs.declared.ready_pred.ReadyPred.{ReadyPred, fold-ReadyPred}
use Rattle.hv_expr.specs.declared.ready_pred.ReadyPred.TheOpen.{ReadyPred-F}
use Rattle.hv_expr.specs.declared.ready_expr.ReadyExpr.{ReadyExpr, fold-ReadyExpr}
use Rattle.hv_expr.specs.declared.ready_expr.ReadyExpr.TheOpen.{ReadyExpr-F}
use Rattle.hv_expr.specs.Checks.{is_fit_factor}
use Rattle.hv_value.specs.Civil.{day_of, month_of, year_of}
use Rattle.hv_expr.specs.Holds.{holds, is_missing, is_related}
use Rattle.hv_expr.specs.Memory.{pred_takes_memory, test_takes_memory}
use Rattle.hv_expr.specs.TextTests.{begins_with, contains, folded, meets}
use Rattle.hv_expr.specs.Values.{cell_at_place, day_part, join_cells, length_cell, linear_cell, val}

-- a text, folded where the test folds
abbrev pub folded_where : Bool → List ℕ → List ℕ
folded_where fold text = if fold then folded text else text

-- whether a text meets a prepared test, whose own text is folded already where it is a piece of a folded text
abbrev pub ready_meets : ReadyTest → List ℕ → Bool
ready_meets (test.Equals fold own) text = bytes_eq (folded_where fold text) (folded_where fold own)
ready_meets (test.Contains fold piece) text = contains piece (folded_where fold text)
ready_meets (test.Begins fold piece) text = begins_with piece (folded_where fold text)

-- whether a prepared test folds a whole text
abbrev pub ready_takes_memory : ReadyTest → Bool
ready_takes_memory (test.Equals fold own) = false
ready_takes_memory (test.Contains fold piece) = fold
ready_takes_memory (test.Begins fold piece) = fold

-- a prepared test says of each text what the test says, and takes memory where the test does
pub record IsReadyTest (test : TextTest) (ready : ReadyTest) : Type 0 where
  pub same : (text : List ℕ) → ready_meets ready text ≡ meets test text
  pub memory : ready_takes_memory ready ≡ test_takes_memory test

-- whether a cell is a text that meets a prepared test
abbrev pub ready_cell_meets : ReadyTest → Cell → Bool
ready_cell_meets test (cell.Text text) = ready_meets test text
ready_cell_meets test _ = false

-- whether a prepared node holds, of whether its parts do
abbrev pub ready_node_holds : List Cell → ReadyPred-F Bool → Bool
ready_node_holds cells (ReadyPred-F.Cmp place how to) = is_related how to (cell_at_place cells place)
ready_node_holds cells (ReadyPred-F.Missing place) = is_missing (cell_at_place cells place)
ready_node_holds cells (ReadyPred-F.Match place test) = ready_cell_meets test (cell_at_place cells place)
ready_node_holds cells (ReadyPred-F.And parts) = list_all (λ part. part) parts
ready_node_holds cells (ReadyPred-F.Or parts) = list_any (λ part. part) parts
ready_node_holds cells (ReadyPred-F.Not of) = not of

-- whether a prepared predicate holds of cells
unfoldable pub ready_holds : List Cell → ReadyPred → Bool
ready_holds cells = fold-ReadyPred Bool (ready_node_holds cells)

-- whether a prepared node takes memory, of whether its parts do
abbrev pub ready_node_takes_memory : ReadyPred-F Bool → Bool
ready_node_takes_memory (ReadyPred-F.Cmp place how to) = false
ready_node_takes_memory (ReadyPred-F.Missing place) = false
ready_node_takes_memory (ReadyPred-F.Match place test) = ready_takes_memory test
ready_node_takes_memory (ReadyPred-F.And parts) = list_any (λ part. part) parts
ready_node_takes_memory (ReadyPred-F.Or parts) = list_any (λ part. part) parts
ready_node_takes_memory (ReadyPred-F.Not of) = of

-- whether one of a prepared predicate's tests takes memory
unfoldable pub ready_pred_takes_memory : ReadyPred → Bool
ready_pred_takes_memory = fold-ReadyPred Bool ready_node_takes_memory

-- whether a place, where there is one, is that of one of so many columns
abbrev pub is_place_within : ℕ → Option ℕ → Bool
is_place_within columns None = true
is_place_within columns (Some place) = nat_lt place columns

abbrev pub is_pred_node_within : ℕ → ReadyPred-F Bool → Bool
is_pred_node_within columns (ReadyPred-F.Cmp place how to) = is_place_within columns place
is_pred_node_within columns (ReadyPred-F.Missing place) = is_place_within columns place
is_pred_node_within columns (ReadyPred-F.Match place test) = is_place_within columns place
is_pred_node_within columns (ReadyPred-F.And parts) = list_all (λ part. part) parts
is_pred_node_within columns (ReadyPred-F.Or parts) = list_all (λ part. part) parts
is_pred_node_within columns (ReadyPred-F.Not of) = of

-- whether each place in a prepared predicate is that of one of so many columns
unfoldable pub is_pred_within : ℕ → ReadyPred → Bool
is_pred_within columns = fold-ReadyPred Bool (is_pred_node_within columns)

-- a prepared predicate has places of the columns alone, says of any cells what the predicate says, and takes memory where
-- the predicate does
pub record IsReadyPred (columns : Columns) (pred : Pred) (ready : ReadyPred) : Type 0 where
  pub within : is_pred_within (length columns) ready ≡ true
  pub same : (cells : List Cell) → ready_holds cells ready ≡ holds columns cells pred
  pub memory : ready_pred_takes_memory ready ≡ pred_takes_memory pred

-- the same of several
pub record AreReadyPreds (columns : Columns) (preds : List Pred) (ready : List ReadyPred) : Type 0 where
  pub within : list_all (is_pred_within (length columns)) ready ≡ true
  pub same : (cells : List Cell) → map (ready_holds cells) ready ≡ map (holds columns cells) preds
  pub memory : list_any ready_pred_takes_memory ready ≡ list_any pred_takes_memory preds

-- the cell that an operand is
abbrev pub operand_cell : Operand → Cell
operand_cell (operand.Column cell) = cell_lent cell
operand_cell (operand.Made cell) = cell

-- the value of a prepared node, of its operands' values
abbrev pub ready_node_val : List Cell → ReadyExpr-F Cell → Cell
ready_node_val cells (ReadyExpr-F.Col place) = cell_at_place cells place
ready_node_val cells (ReadyExpr-F.Year of) = day_part (λ day. pos (year_of day)) of
ready_node_val cells (ReadyExpr-F.Month of) = day_part (λ day. pos (month_of day)) of
ready_node_val cells (ReadyExpr-F.Day of) = day_part day_of of
ready_node_val cells (ReadyExpr-F.Length of) = length_cell of
ready_node_val cells (ReadyExpr-F.Linear a b of) = linear_cell a b of
ready_node_val cells (ReadyExpr-F.Join left between right) = join_cells left between right

-- the value of a prepared expression over cells
unfoldable pub ready_val : List Cell → ReadyExpr → Cell
ready_val cells = fold-ReadyExpr Cell (ready_node_val cells)

abbrev pub is_expr_node_within : ℕ → ReadyExpr-F Bool → Bool
is_expr_node_within columns (ReadyExpr-F.Col place) = is_place_within columns place
is_expr_node_within columns (ReadyExpr-F.Year of) = of
is_expr_node_within columns (ReadyExpr-F.Month of) = of
is_expr_node_within columns (ReadyExpr-F.Day of) = of
is_expr_node_within columns (ReadyExpr-F.Length of) = of
is_expr_node_within columns (ReadyExpr-F.Linear a b of) = is_fit_factor a && is_fit_factor b && of
is_expr_node_within columns (ReadyExpr-F.Join left between right) = left && right

-- whether each place in a prepared expression is that of one of so many columns, and each factor and summand is one that
-- a message can give
unfoldable pub is_expr_within : ℕ → ReadyExpr → Bool
is_expr_within columns = fold-ReadyExpr Bool (is_expr_node_within columns)

-- a prepared expression has places of the columns alone, and over any cells the expression's value
pub record IsReadyExpr (columns : Columns) (e : Expr) (ready : ReadyExpr) : Type 0 where
  pub within : is_expr_within (length columns) ready ≡ true
  pub same : (cells : List Cell) → ready_val cells ready ≡ val columns cells e
