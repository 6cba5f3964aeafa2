-- Which trees can be used over a schema, and what is wrong with the others: this project's own rule.
use Rattle.std.specs.Prelude.{ℕ, ◌-◌, ◌^◌, ℤ, pos, neg_ℤ, int_le, List, [], ◌∷◌, ◌++◌, slice_get, Bool, true, false, ◌&&◌, nat_lt, if◌then◌else◌, Option, Some, None, option_map, option_and_then, Result, Ok, Err, flat_map, codes}
use Rattle.hv_value.specs.declared.cell.Kind.{Kind}
use Rattle.hv_value.specs.declared.cell.Kind.TheVariants as kind
use Rattle.hv_value.specs.declared.cell.Cell.{Cell}
use Rattle.hv_value.specs.declared.cell.Cell.TheVariants as cell
use Rattle.hv_value.specs.Schema.{Columns, column_place}
use Rattle.hv_expr.specs.declared.error.ExprErr.{ExprErr}
use Rattle.hv_expr.specs.declared.error.ExprErr.TheVariants as err
use Rattle.hv_expr.specs.declared.expr.Expr.{Expr, out-Expr, fold-Expr}
use Rattle.hv_expr.specs.declared.expr.Expr.TheOpen.{Expr-F}
use Rattle.hv_expr.specs.declared.pred.Pred.{Pred, fold-Pred}
use Rattle.hv_expr.specs.declared.pred.Pred.TheOpen.{Pred-F}
use Rattle.hv_expr.specs.declared.error.TheConstants.{MAX_DEPTH}
use Rattle.hv_expr.specs.Sizes.{expr_depth, pred_depth}

abbrev pub is_same_kind : Kind → Kind → Bool
is_same_kind kind.Int kind.Int = true
is_same_kind kind.Date kind.Date = true
is_same_kind kind.Text kind.Text = true
is_same_kind _ _ = false

-- the kind of a cell, none of a missing one
abbrev pub kind_of_cell : Cell → Option Kind
kind_of_cell cell.Missing = None
kind_of_cell (cell.Int n) = Some kind.Int
kind_of_cell (cell.Date day) = Some kind.Date
kind_of_cell (cell.Text text) = Some kind.Text

-- the kind of the column with a name, none where there is no such column
abbrev pub kind_of_column : Columns → List ℕ → Option Kind
kind_of_column columns name = option_and_then (λ place. option_map (λ column. column.1) (slice_get columns place)) (column_place name columns)

-- the kind of an expression by its outermost node, none where that is a column that isn't there
abbrev pub node_kind : {A : Type 0} → Columns → Expr-F A → Option Kind
node_kind columns (Expr-F.Col name) = kind_of_column columns name
node_kind columns (Expr-F.Year of) = Some kind.Int
node_kind columns (Expr-F.Month of) = Some kind.Int
node_kind columns (Expr-F.Day of) = Some kind.Int
node_kind columns (Expr-F.Length of) = Some kind.Int
node_kind columns (Expr-F.Linear a b of) = Some kind.Int
node_kind columns (Expr-F.Join left between right) = Some kind.Text

abbrev pub kind_of : Columns → Expr → Option Kind
kind_of columns e = node_kind columns (out-Expr e)

-- what is wrong with a node or a constant of a kind, none where it names a column that isn't there, at a place that
-- wants a kind
abbrev pub unlike : Kind → Option Kind → List ExprErr
unlike wanted None = err.NoColumn ∷ []
unlike wanted (Some k) = if is_same_kind wanted k then [] else err.WrongKind ∷ []

-- the same at a place that may want none
abbrev pub own_faults : Option Kind → Option Kind → List ExprErr
own_faults None None = err.NoColumn ∷ []
own_faults None (Some k) = []
own_faults (Some wanted) own = unlike wanted own

-- what is wrong below a node, whose operands say it of the kinds that they are wanted of
abbrev pub operand_faults : Expr-F (Option Kind → List ExprErr) → List ExprErr
operand_faults (Expr-F.Col name) = []
operand_faults (Expr-F.Year of) = of (Some kind.Date)
operand_faults (Expr-F.Month of) = of (Some kind.Date)
operand_faults (Expr-F.Day of) = of (Some kind.Date)
operand_faults (Expr-F.Length of) = of (Some kind.Text)
operand_faults (Expr-F.Linear a b of) = of (Some kind.Int)
operand_faults (Expr-F.Join left between right) = left (Some kind.Text) ++ right (Some kind.Text)

-- what is wrong with the nodes of an expression at a place that may want a kind, in preorder
unfoldable pub expr_faults : Columns → Expr → Option Kind → List ExprErr
expr_faults columns = fold-Expr (Option Kind → List ExprErr) (λ node wanted. own_faults wanted (node_kind columns node) ++ operand_faults node)

-- what is wrong with a column and a constant that it is compared with
abbrev pub cmp_faults : Option Kind → Option Kind → List ExprErr
cmp_faults None constant = err.NoColumn ∷ []
cmp_faults (Some k) None = err.WrongKind ∷ []
cmp_faults (Some k) (Some constant) = unlike k (Some constant)

-- what is wrong with a node of a predicate and below it
abbrev pub pred_node_faults : Columns → Pred-F (List ExprErr) → List ExprErr
pred_node_faults columns (Pred-F.Cmp col how to) = cmp_faults (kind_of_column columns col) (kind_of_cell to)
pred_node_faults columns (Pred-F.Missing col) = own_faults None (kind_of_column columns col)
pred_node_faults columns (Pred-F.Match col test) = unlike kind.Text (kind_of_column columns col)
pred_node_faults columns (Pred-F.And parts) = flat_map (λ faults. faults) parts
pred_node_faults columns (Pred-F.Or parts) = flat_map (λ faults. faults) parts
pred_node_faults columns (Pred-F.Not of) = of

-- what is wrong with the nodes of a predicate, in preorder
unfoldable pub pred_faults : Columns → Pred → List ExprErr
pred_faults columns = fold-Pred (List ExprErr) (pred_node_faults columns)

-- the first of what is wrong with a tree of a depth: the depth, then the first wrong node
abbrev pub first_fault : ℕ → List ExprErr → Option ExprErr
first_fault depth faults = if nat_lt MAX_DEPTH depth then Some err.TooDeep else slice_get faults 0

-- why an expression can't be used over the columns, none where it can
unfoldable pub expr_fault : Columns → Expr → Option ExprErr
expr_fault columns e = first_fault (expr_depth e) (expr_faults columns e None)

-- why a predicate can't be used over the columns, none where it can
unfoldable pub pred_fault : Columns → Pred → Option ExprErr
pred_fault columns p = first_fault (pred_depth p) (pred_faults columns p)

-- the kind, unless something is wrong
abbrev pub kind_unless : Option ExprErr → Option Kind → Result Kind ExprErr
kind_unless (Some e) k = Err e
kind_unless None None = Err err.NoColumn
kind_unless None (Some k) = Ok k

-- what a check of an expression answers: the kind of its values, or why it can't be used
abbrev pub checked_expr : Columns → Expr → Result Kind ExprErr
checked_expr columns e = kind_unless (expr_fault columns e) (kind_of columns e)

-- nothing, unless something is wrong
abbrev pub fine_unless : Option ExprErr → Result (Unit {0}) ExprErr
fine_unless (Some e) = Err e
fine_unless None = Ok tt

-- what a check of a predicate answers: nothing, or why it can't be used
abbrev pub checked_pred : Columns → Pred → Result (Unit {0}) ExprErr
checked_pred columns p = fine_unless (pred_fault columns p)

-- whether a factor or a summand is a number that a message can give: -2^63 to 2^64 - 1
abbrev pub is_fit_factor : ℤ → Bool
is_fit_factor n = int_le (neg_ℤ (pos (2 ^ 63))) n && int_le n (pos (2 ^ 64 - 1))

-- whether a node's factor and summand are, where it has them, and so below it
abbrev pub fit_node : Expr-F Bool → Bool
fit_node (Expr-F.Col name) = true
fit_node (Expr-F.Year of) = of
fit_node (Expr-F.Month of) = of
fit_node (Expr-F.Day of) = of
fit_node (Expr-F.Length of) = of
fit_node (Expr-F.Linear a b of) = is_fit_factor a && is_fit_factor b && of
fit_node (Expr-F.Join left between right) = left && right

-- whether each factor and summand of an expression lies from -2^63 to 2^64 - 1
unfoldable pub has_fit_factors : Expr → Bool
has_fit_factors = fold-Expr Bool fit_node

-- what an error says
abbrev pub expr_err_text : ExprErr → List ℕ
expr_err_text err.NoColumn = codes "a column isn't in the schema"
expr_err_text err.WrongKind = codes "a column, constant or operand has another kind"
expr_err_text err.TooDeep = codes "the tree is too deep"
