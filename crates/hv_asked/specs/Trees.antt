-- Predicates and expressions that a message gives: what each asks for, its limits, and what it means over columns. Their levels are
-- counted down from 128, since serde_json's reading nests at most 127.
use Rattle.std.specs.Prelude.{ℕ, zero, suc, ◌+◌, List, sum, Bool, true, ◌&&◌, nat_le, if◌then◌else◌, Option, None, option_map, option_and_then, bytes_eq, codes}
use Rattle.std.specs.List.{list_all}
use Rattle.serde_json.specs.Data.{Data}
use Rattle.serde_json.specs.Find.{get}
use Rattle.serde_json.specs.Read.{max_depth}
use Rattle.hv_value.specs.Schema.{Columns}
use Rattle.hv_expr.specs.declared.expr.Expr.{Expr, fold-Expr}
use Rattle.hv_expr.specs.declared.expr.Expr.TheOpen.{Expr-F}
use Rattle.hv_expr.specs.declared.expr.Expr.TheVariants as expr
use Rattle.hv_expr.specs.declared.pred.Pred.{Pred}
use Rattle.hv_expr.specs.declared.pred.Pred.TheVariants as pred
use Rattle.hv_expr.specs.declared.pred.Rel.{Rel}
use Rattle.hv_expr.specs.declared.text_test.How.{How}
use Rattle.hv_expr.specs.declared.text_test.TextTest.{TextTest}
use Rattle.hv_expr.specs.Checks.{kind_of_column}
use Rattle.hv_expr.specs.Sizes.{expr_nodes}
use Rattle.hv_asked.specs.Constants.{cell_at, cell_beside, fits_cell, is_short}
use Rattle.hv_asked.specs.Fields.{all_read, integer_at, text_at, bool_at, list_at, shaped}
use Rattle.hv_asked.specs.Words.{how_named, rel_named}
use Rattle.hv_asked.specs.declared.limits.TheConstants.{MAX_NODES}
use Rattle.hv_asked.specs.declared.pred_asked.PredAsked.{PredAsked, fold-PredAsked}
use Rattle.hv_asked.specs.declared.pred_asked.PredAsked.TheOpen.{PredAsked-F}
use Rattle.hv_asked.specs.declared.pred_asked.PredAsked.TheVariants as asks

-- as many levels as a value that was read can have, and one more
abbrev pub levels : ℕ
levels = suc max_depth

-- what is read of the value under a key
abbrev pub under : {A : Type 0} → (Data → Option A) → List ℕ → Data → Option A
under read key value = shaped (get key value) read

-- ---- what a predicate asks for

-- the relation and the way of a test under `how`
abbrev pub rel_at : Data → Option Rel
rel_at value = option_and_then rel_named (text_at (codes "how") value)

abbrev pub how_at : Data → Option How
how_at value = option_and_then how_named (text_at (codes "how") value)

-- a comparison: the column, the relation, the constant
abbrev pub cmp_in : Data → Option PredAsked
cmp_in value =
    shaped (text_at (codes "col") value) (λ col. shaped (rel_at value) (λ relation.
    option_map (asks.Cmp col relation) (cell_at (codes "to") value)))

-- a test of a text: how, whether it folds, the text
abbrev pub test_in : Data → Option TextTest
test_in value =
    shaped (how_at value) (λ way. shaped (bool_at (codes "fold") value) (λ fold.
    option_map (λ text. record { how = way; fold = fold; text = text }) (text_at (codes "text") value)))

abbrev pub match_in : Data → Option PredAsked
match_in value = shaped (text_at (codes "col") value) (λ col. option_map (asks.Match col) (test_in value))

abbrev pub missing_in : Data → Option PredAsked
missing_in value = option_map asks.Missing (text_at (codes "col") value)

-- the predicates of a list, each read so
abbrev pub parts_in : (Data → Option PredAsked) → Data → Option (List PredAsked)
parts_in part value = shaped (list_at (codes "of") value) (all_read part)

-- a predicate by its word, its parts read so
abbrev pub pred_with : (Data → Option PredAsked) → Data → List ℕ → Option PredAsked
pred_with part value word =
    if bytes_eq word (codes "cmp") then cmp_in value
    else if bytes_eq word (codes "missing") then missing_in value
    else if bytes_eq word (codes "text") then match_in value
    else if bytes_eq word (codes "and") then option_map asks.And (parts_in part value)
    else if bytes_eq word (codes "or") then option_map asks.Or (parts_in part value)
    else if bytes_eq word (codes "not") then option_map asks.Not (under part (codes "of") value)
    else None

-- a predicate of at most so many levels
unfoldable pub pred_in : ℕ → Data → Option PredAsked
pred_in zero value = None
pred_in (suc n) value = shaped (text_at (codes "p") value) (pred_with (pred_in n) value)

-- ---- its limits: those of its constants and texts, and 64 nodes

abbrev pub fit_constant : PredAsked-F Bool → Bool
fit_constant (PredAsked-F.Cmp col relation to) = fits_cell to
fit_constant (PredAsked-F.Missing col) = true
fit_constant (PredAsked-F.Match col test) = is_short test.text
fit_constant (PredAsked-F.And parts) = list_all (λ fits. fits) parts
fit_constant (PredAsked-F.Or parts) = list_all (λ fits. fits) parts
fit_constant (PredAsked-F.Not of) = of

-- whether each constant and each text is within its limit
unfoldable pub has_fit_constants : PredAsked → Bool
has_fit_constants = fold-PredAsked Bool fit_constant

abbrev pub node_count : PredAsked-F ℕ → ℕ
node_count (PredAsked-F.Cmp col relation to) = 1
node_count (PredAsked-F.Missing col) = 1
node_count (PredAsked-F.Match col test) = 1
node_count (PredAsked-F.And parts) = sum parts + 1
node_count (PredAsked-F.Or parts) = sum parts + 1
node_count (PredAsked-F.Not of) = of + 1

-- the number of its nodes
unfoldable pub asked_nodes : PredAsked → ℕ
asked_nodes = fold-PredAsked ℕ node_count

abbrev pub fits_pred : PredAsked → Bool
fits_pred p = has_fit_constants p && nat_le (asked_nodes p) MAX_NODES

-- ---- what it means over columns

-- a node with its constant beside its column
abbrev pub dated_node : Columns → PredAsked-F Pred → Pred
dated_node columns (PredAsked-F.Cmp col relation to) = pred.Cmp col relation (cell_beside (kind_of_column columns col) to)
dated_node columns (PredAsked-F.Missing col) = pred.Missing col
dated_node columns (PredAsked-F.Match col test) = pred.Match col test
dated_node columns (PredAsked-F.And parts) = pred.And parts
dated_node columns (PredAsked-F.Or parts) = pred.Or parts
dated_node columns (PredAsked-F.Not of) = pred.Not of

-- a predicate over columns: a text that names a day is that day where it is compared with a column of dates
unfoldable pub dated_pred : Columns → PredAsked → Pred
dated_pred columns = fold-PredAsked Pred (dated_node columns)

-- ---- expressions

-- a * x + b
abbrev pub linear_in : (Data → Option Expr) → Data → Option Expr
linear_in part value =
    shaped (integer_at (codes "a") value) (λ a. shaped (integer_at (codes "b") value) (λ b.
    option_map (expr.Linear a b) (under part (codes "of") value)))

-- a text between two others
abbrev pub join_in : (Data → Option Expr) → Data → Option Expr
join_in part value =
    shaped (under part (codes "left") value) (λ left. shaped (text_at (codes "between") value) (λ between.
    option_map (expr.Join left between) (under part (codes "right") value)))

-- an expression by its word, its operands read so
abbrev pub expr_with : (Data → Option Expr) → Data → List ℕ → Option Expr
expr_with part value word =
    if bytes_eq word (codes "col") then option_map expr.Col (text_at (codes "col") value)
    else if bytes_eq word (codes "year") then option_map expr.Year (under part (codes "of") value)
    else if bytes_eq word (codes "month") then option_map expr.Month (under part (codes "of") value)
    else if bytes_eq word (codes "day") then option_map expr.Day (under part (codes "of") value)
    else if bytes_eq word (codes "length") then option_map expr.Length (under part (codes "of") value)
    else if bytes_eq word (codes "linear") then linear_in part value
    else if bytes_eq word (codes "join") then join_in part value
    else None

-- an expression of at most so many levels
unfoldable pub expr_in : ℕ → Data → Option Expr
expr_in zero value = None
expr_in (suc n) value = shaped (text_at (codes "e") value) (expr_with (expr_in n) value)

-- ---- their limits: those of the texts between two others, and 64 nodes

abbrev pub short_node : Expr-F Bool → Bool
short_node (Expr-F.Col name) = true
short_node (Expr-F.Year of) = of
short_node (Expr-F.Month of) = of
short_node (Expr-F.Day of) = of
short_node (Expr-F.Length of) = of
short_node (Expr-F.Linear a b of) = of
short_node (Expr-F.Join left between right) = left && is_short between && right

-- whether each text between two others has at most 1,024 bytes
unfoldable pub has_short_texts : Expr → Bool
has_short_texts = fold-Expr Bool short_node

abbrev pub fits_expr : Expr → Bool
fits_expr e = has_short_texts e && nat_le (expr_nodes e) MAX_NODES
