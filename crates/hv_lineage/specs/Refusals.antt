-- Why terms are refused: this project's own rule. Where several reasons stand together the first in each definition is told.
use Rattle.std.specs.Prelude.{ℕ, List, ◌++◌, Bool, not, ◌||◌, nat_lt, Option, Some, None, option_map, is_some, if◌then◌else◌, codes}
use Rattle.std.specs.List.{list_all, list_any}
use Rattle.hv_value.specs.declared.cell.Kind.{Kind}
use Rattle.hv_value.specs.contracts.schema.Schema as schema
use Rattle.hv_value.specs.Same.{same_by}
use Rattle.hv_value.specs.Schema.{Columns, column_place, is_schema}
use Rattle.hv_expr.specs.declared.error.ExprErr.{ExprErr}
use Rattle.hv_expr.specs.declared.error.ExprErr.TheVariants as fault
use Rattle.hv_expr.specs.declared.expr.Expr.{Expr}
use Rattle.hv_expr.specs.declared.pred.Pred.{Pred}
use Rattle.hv_expr.specs.Checks.{expr_fault, pred_fault}
use Rattle.hv_lineage.specs.declared.error.LineageErr.{LineageErr}
use Rattle.hv_lineage.specs.declared.error.LineageErr.TheVariants as err
use Rattle.hv_lineage.specs.declared.how.How2.{How2}
use Rattle.hv_lineage.specs.declared.how.How2.TheVariants as how2
use Rattle.hv_lineage.specs.declared.term.TheConstants.{MAX_TERM_DEPTH, MAX_TERM_NODES}
use Rattle.hv_lineage.specs.Made.{picked, with_column}

-- what is said of a refusal
abbrev pub lineage_err_text : LineageErr → List ℕ
lineage_err_text err.NoColumn = codes "a column isn't in the schema"
lineage_err_text err.WrongKind = codes "a column, constant or operand has another kind"
lineage_err_text err.TooDeep = codes "the predicate or expression is too deep"
lineage_err_text err.BadSchema = codes "the columns make no schema"
lineage_err_text err.NotSameBase = codes "the two sides have unequal bases"
lineage_err_text err.NameClash = codes "a column with this name is there already"
lineage_err_text err.SchemaDiffers = codes "the two sides have unequal schemas"
lineage_err_text err.Deep = codes "the lineage is too deep or too large"
lineage_err_text err.Memory = codes "out of memory"

-- what is wrong with a predicate or an expression, as a refusal
abbrev pub refusal_of_fault : ExprErr → LineageErr
refusal_of_fault fault.NoColumn = err.NoColumn
refusal_of_fault fault.WrongKind = err.WrongKind
refusal_of_fault fault.TooDeep = err.TooDeep

-- whether there is a column with a name
abbrev pub has_column : Columns → List ℕ → Bool
has_column columns name = is_some (column_place name columns)

-- why a term of this depth and number of nodes is refused, none where it isn't
abbrev pub deep_refusal : ℕ → ℕ → Option LineageErr
deep_refusal depth size = if nat_lt MAX_TERM_DEPTH depth || nat_lt MAX_TERM_NODES size then Some err.Deep else None

-- why a choice of columns by their names is refused, none where it isn't
abbrev pub choice_refusal : Columns → List (List ℕ) → Option LineageErr
choice_refusal columns names =
    if not (list_all (has_column columns) names) then Some err.NoColumn
    else if not (is_schema (picked columns names)) then Some err.BadSchema
    else None

-- why a further column of a name and a kind is refused beside the columns, none where it isn't
abbrev pub name_refusal : Columns → List ℕ → Option Kind → Option LineageErr
name_refusal columns name k =
    if has_column columns name then Some err.NameClash
    else if not (is_schema (with_column columns name k)) then Some err.BadSchema
    else None

-- why a predicate is refused over the columns, none where it isn't
abbrev pub pred_refusal : Columns → Pred → Option LineageErr
pred_refusal columns pred = option_map refusal_of_fault (pred_fault columns pred)

-- why an expression is
abbrev pub expr_refusal : Columns → Expr → Option LineageErr
expr_refusal columns expr = option_map refusal_of_fault (expr_fault columns expr)

-- whether a right column has the name of a left one
abbrev pub have_common : Columns → Columns → Bool
have_common left right = list_any (λ column. has_column left column.0) right

-- why columns can't be combined, none where they can: zipped ones have no name in common and make a schema, those of a
-- union are the same
abbrev pub how_refusal : How2 → Columns → Columns → Option LineageErr
how_refusal how2.Zip left right =
    if have_common left right then Some err.NameClash
    else if not (is_schema (left ++ right)) then Some err.BadSchema
    else None
how_refusal how2.Union left right = if same_by schema.the_row.coded left right then None else Some err.SchemaDiffers
how_refusal how2.Both left right = None
how_refusal how2.Minus left right = None
