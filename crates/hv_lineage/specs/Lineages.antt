-- Lineages: a base and a term over it, and what each lineage keeps.
use Rattle.std.specs.Prelude.{ℕ, ◌+◌, ◌≡◌, ◌<◌, ◌≤◌, ◌^◌, ◌⊎◌, List, true, Option, Some, None}
use Rattle.std.specs.Option.{option_or}
use Rattle.hv_value.specs.Schema.{Columns}
use Rattle.hv_expr.specs.declared.expr.Expr.{Expr}
use Rattle.hv_expr.specs.declared.pred.Pred.{Pred}
use Rattle.hv_expr.specs.Checks.{expr_fault, has_fit_factors, kind_of, pred_fault}
use Rattle.hv_lineage.specs.declared.base.Base.{Base}
use Rattle.hv_lineage.specs.declared.error.LineageErr.{LineageErr}
use Rattle.hv_lineage.specs.declared.error.LineageErr.TheVariants as err
use Rattle.hv_lineage.specs.declared.term.Term.{Term, every-Term}
use Rattle.hv_lineage.specs.declared.term.Term.TheOpen.{Term-F}
use Rattle.hv_lineage.specs.declared.term.Term.TheVariants as term
use Rattle.hv_lineage.specs.declared.term.TheConstants.{MAX_TERM_DEPTH, MAX_TERM_NODES}
use Rattle.hv_lineage.specs.Bases.{IsFitBase, base_columns, base_parts}
use Rattle.hv_lineage.specs.Made.{columns_of}
use Rattle.hv_lineage.specs.Refusals.{choice_refusal, deep_refusal, expr_refusal, how_refusal, name_refusal, pred_refusal}
use Rattle.hv_lineage.specs.Sizes.{term_depth, term_size}

-- what contracts see of a lineage: its base, and the term over it
pub record TermOver : Type 0 where
  pub base : Base
  pub term : Term

-- the columns of a lineage
abbrev pub lineage_columns : TermOver → Columns
lineage_columns lineage = columns_of (base_columns lineage.base) lineage.term

-- the number of its partitions
abbrev pub lineage_parts : TermOver → ℕ
lineage_parts lineage = base_parts lineage.base

-- the rows of a lineage of which a predicate holds
abbrev pub filtered : TermOver → Pred → TermOver
filtered lineage pred = record lineage { term = term.Filter lineage.term pred }

-- the named columns of a lineage
abbrev pub projected : TermOver → List (List ℕ) → TermOver
projected lineage cols = record lineage { term = term.Project lineage.term cols }

-- a lineage with one more column
abbrev pub derived : TermOver → List ℕ → Expr → TermOver
derived lineage name expr = record lineage { term = term.Derive lineage.term name expr }

-- why one more node over a lineage makes it too deep or too large, none where it doesn't
abbrev pub room_refusal : TermOver → Option LineageErr
room_refusal lineage = deep_refusal (term_depth lineage.term + 1) (term_size lineage.term + 1)

-- why a filter of a lineage is refused, none where it isn't: the predicate is tested first
abbrev pub filter_refusal : TermOver → Pred → Option LineageErr
filter_refusal lineage pred = option_or (pred_refusal (lineage_columns lineage) pred) (room_refusal lineage)

-- why a choice of its columns is refused, none where it isn't: the names are tested first
abbrev pub project_refusal : TermOver → List (List ℕ) → Option LineageErr
project_refusal lineage cols = option_or (choice_refusal (lineage_columns lineage) cols) (room_refusal lineage)

-- why a column derived from its columns is refused, none where it isn't: the expression is tested first, then the name
abbrev pub derive_refusal : TermOver → List ℕ → Expr → Option LineageErr
derive_refusal lineage name expr =
    option_or (expr_refusal (lineage_columns lineage) expr) (option_or (name_refusal (lineage_columns lineage) name (kind_of (lineage_columns lineage) expr)) (room_refusal lineage))

-- a column of an expression's values can be derived beside the columns
pub record IsFitColumn (columns : Columns) (name : List ℕ) (expr : Expr) : Type 0 where
  pub value : expr_fault columns expr ≡ None
  pub named : name_refusal columns name (kind_of columns expr) ≡ None
  pub factors : has_fit_factors expr ≡ true

-- a sample can be made by a seed, one of 64 bits, at a threshold, of 2^32nds
pub record IsFitSample (seed threshold : ℕ) : Type 0 where
  pub word : seed < 2 ^ 64
  pub within : threshold ≤ 2 ^ 32

-- a node can be used over a base with these columns
abbrev pub IsFitNode : Columns → Term-F Term → Type 0
IsFitNode base Term-F.Base = Unit {0}
IsFitNode base (Term-F.Filter of pred) = pred_fault (columns_of base of) pred ≡ None
IsFitNode base (Term-F.Project of cols) = choice_refusal (columns_of base of) cols ≡ None
IsFitNode base (Term-F.Derive of name expr) = IsFitColumn (columns_of base of) name expr
IsFitNode base (Term-F.Sample of seed threshold) = IsFitSample seed threshold
IsFitNode base (Term-F.Combine how left right) = how_refusal how (columns_of base left) (columns_of base right) ≡ None

-- what each lineage keeps
pub record IsLineage (lineage : TermOver) : Type 0 where
  pub base : IsFitBase lineage.base
  pub fits : every-Term (IsFitNode (base_columns lineage.base)) lineage.term
  pub shallow : term_depth lineage.term ≤ MAX_TERM_DEPTH
  pub small : term_size lineage.term ≤ MAX_TERM_NODES

-- the error is the refusal, or want of memory, which may stand in place of any answer
abbrev pub IsRefusal : Option LineageErr → LineageErr → Type 0
IsRefusal refusal e = (refusal ≡ Some e) ⊎ (e ≡ err.Memory)
