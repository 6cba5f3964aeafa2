-- Each refusal of a term has a word.
use Rattle.std.proofs.Common.{◌≡◌, ℕ, List, Bool, true, false, Option, Some, None, refl, option_map, if◌then◌else◌}
use Rattle.std.specs.Prelude.{IfSome, is_some, not, ◌||◌, ◌+◌, ◌++◌, max, nat_lt}
use Rattle.std.specs.List.{list_all}
use Rattle.std.specs.Option.{option_or}
use Rattle.hv_value.specs.declared.cell.Kind.{Kind}
use Rattle.hv_value.specs.Schema.{Columns, is_schema}
use Rattle.hv_expr.specs.Checks.{expr_fault, kind_of, pred_fault}
use Rattle.hv_expr.specs.declared.error.ExprErr.{ExprErr}
use Rattle.hv_expr.specs.declared.error.ExprErr.TheVariants as fault
use Rattle.hv_expr.specs.declared.expr.Expr.{Expr}
use Rattle.hv_expr.specs.declared.pred.Pred.{Pred}
use Rattle.hv_value.specs.contracts.schema.Schema as schema
use Rattle.hv_value.specs.Same.{same_by}
use Rattle.hv_lineage.specs.contracts.base.Base as base
use Rattle.hv_lineage.specs.declared.base.Base.{Base}
use Rattle.hv_lineage.specs.declared.how.How2.{How2}
use Rattle.hv_lineage.specs.declared.how.How2.TheVariants as how2
use Rattle.hv_lineage.specs.Combining.{base_refusal, combine_refusal, pair_refusal}
use Rattle.hv_lineage.specs.declared.error.LineageErr.{LineageErr}
use Rattle.hv_lineage.specs.declared.error.LineageErr.TheVariants as err
use Rattle.hv_lineage.specs.declared.term.TheConstants.{MAX_TERM_DEPTH, MAX_TERM_NODES}
use Rattle.hv_lineage.specs.Lineages.{TermOver, derive_refusal, filter_refusal, lineage_columns, project_refusal, room_refusal}
use Rattle.hv_lineage.specs.Made.{picked, with_column}
use Rattle.hv_lineage.specs.Refusals.{choice_refusal, expr_refusal, has_column, have_common, how_refusal, name_refusal, pred_refusal, refusal_of_fault}
use Rattle.hv_lineage.specs.Sizes.{term_depth, term_size}
use Rattle.hv_message.specs.Terms.{refusal_word}

abbrev HasWord : LineageErr → Type 0
HasWord e = is_some (refusal_word e) ≡ true

-- the first of two refusals
first_word : (a b : Option LineageErr) → IfSome a HasWord → IfSome b HasWord → IfSome (option_or a b) HasWord
first_word None b one other = other
first_word (Some e) b one other = one

-- a refusal by a test, and another where the test doesn't refuse
test_word : (t : Bool) (e : LineageErr) (rest : Option LineageErr) → HasWord e → IfSome rest HasWord → IfSome (if t then Some e else rest) HasWord
test_word true e rest one other = one
test_word false e rest one other = other

fault_word : (f : Option ExprErr) → IfSome (option_map refusal_of_fault f) HasWord
fault_word None = tt
fault_word (Some fault.NoColumn) = refl
fault_word (Some fault.WrongKind) = refl
fault_word (Some fault.TooDeep) = refl

pub room_word : (lineage : TermOver) → IfSome (room_refusal lineage) HasWord
room_word lineage =
    test_word (nat_lt MAX_TERM_DEPTH (term_depth lineage.term + 1) || nat_lt MAX_TERM_NODES (term_size lineage.term + 1)) err.Deep None refl tt

choice_word : (columns : Columns) (names : List (List ℕ)) → IfSome (choice_refusal columns names) HasWord
choice_word columns names =
    test_word (not (list_all (has_column columns) names)) err.NoColumn (if not (is_schema (picked columns names)) then Some err.BadSchema else None) refl
    (test_word (not (is_schema (picked columns names))) err.BadSchema None refl tt)

name_word : (columns : Columns) (name : List ℕ) (k : Option Kind) → IfSome (name_refusal columns name k) HasWord
name_word columns name k =
    test_word (has_column columns name) err.NameClash (if not (is_schema (with_column columns name k)) then Some err.BadSchema else None) refl
    (test_word (not (is_schema (with_column columns name k))) err.BadSchema None refl tt)

pub filter_word : (lineage : TermOver) (pred : Pred) → IfSome (filter_refusal lineage pred) HasWord
filter_word lineage pred =
    first_word (pred_refusal (lineage_columns lineage) pred) (room_refusal lineage) (fault_word (pred_fault (lineage_columns lineage) pred)) (room_word lineage)

pub project_word : (lineage : TermOver) (cols : List (List ℕ)) → IfSome (project_refusal lineage cols) HasWord
project_word lineage cols =
    first_word (choice_refusal (lineage_columns lineage) cols) (room_refusal lineage) (choice_word (lineage_columns lineage) cols) (room_word lineage)

pub derive_word : (lineage : TermOver) (name : List ℕ) (expr : Expr) → IfSome (derive_refusal lineage name expr) HasWord
derive_word lineage name expr =
    let columns = lineage_columns lineage in
    let named = name_refusal columns name (kind_of columns expr) in
    first_word (expr_refusal columns expr) (option_or named (room_refusal lineage)) (fault_word (expr_fault columns expr))
    (first_word named (room_refusal lineage) (name_word columns name (kind_of columns expr)) (room_word lineage))

how_refused : (how : How2) (left right : Columns) → IfSome (how_refusal how left right) HasWord
how_refused how2.Zip left right =
    test_word (have_common left right) err.NameClash (if not (is_schema (left ++ right)) then Some err.BadSchema else None) refl
    (test_word (not (is_schema (left ++ right))) err.BadSchema None refl tt)
how_refused how2.Union left right = differs (same_by schema.the_row.coded left right)
  where
    differs : (same : Bool) → IfSome (if same then None else Some err.SchemaDiffers) HasWord
    differs true = tt
    differs false = refl
how_refused how2.Both left right = tt
how_refused how2.Minus left right = tt

base_refused : (a b : Base) → IfSome (base_refusal a b) HasWord
base_refused a b = differs (same_by base.the_row.coded a b)
  where
    differs : (same : Bool) → IfSome (if same then None else Some err.NotSameBase) HasWord
    differs true = tt
    differs false = refl

pair_refused : (left right : TermOver) → IfSome (pair_refusal left right) HasWord
pair_refused left right =
    test_word (nat_lt MAX_TERM_DEPTH (max (term_depth left.term) (term_depth right.term) + 1) || nat_lt MAX_TERM_NODES (term_size left.term + term_size right.term + 1))
    err.Deep None refl tt

pub combine_word : (how : How2) (left right : TermOver) → IfSome (combine_refusal how left right) HasWord
combine_word how left right =
    let of_columns = how_refusal how (lineage_columns left) (lineage_columns right) in
    first_word (base_refusal left.base right.base) (option_or of_columns (pair_refusal left right)) (base_refused left.base right.base)
    (first_word of_columns (pair_refusal left right) (how_refused how (lineage_columns left) (lineage_columns right)) (pair_refused left right))
