-- Lineages whose texts read back: those that keep to the limits of messages, and whose named table the catalog has as they have it.
-- This project's own rule.
use Rattle.std.specs.Prelude.{◌≡◌, ◌≤◌, ◌-◌, ◌^◌, pos, negsuc, int_le, Bool, true, ◌&&◌, Some, Ok}
use Rattle.std.specs.List.{list_all}
use Rattle.hv_value.specs.Catalog.{Tables, parts_named}
use Rattle.hv_value.specs.Days.{is_day_number}
use Rattle.hv_value.specs.declared.cell.Cell.{Cell}
use Rattle.hv_value.specs.declared.cell.Cell.TheVariants as cell
use Rattle.hv_expr.specs.declared.expr.Expr.{Expr}
use Rattle.hv_expr.specs.declared.pred.Pred.{Pred, fold-Pred}
use Rattle.hv_expr.specs.declared.pred.Pred.TheOpen.{Pred-F}
use Rattle.hv_expr.specs.Sizes.{expr_nodes, pred_nodes}
use Rattle.hv_lineage.specs.declared.base.Base.{Base}
use Rattle.hv_lineage.specs.declared.base.Base.TheVariants as base
use Rattle.hv_lineage.specs.declared.term.Term.{Term, every-Term}
use Rattle.hv_lineage.specs.declared.term.Term.TheOpen.{Term-F}
use Rattle.hv_lineage.specs.Lineages.{TermOver}
use Rattle.hv_asked.specs.Constants.{is_short}
use Rattle.hv_message.specs.LineageTexts.{lineage_of_text}
use Rattle.hv_asked.specs.Trees.{has_short_texts}
use Rattle.hv_asked.specs.declared.limits.TheConstants.{MAX_NODES}
use Rattle.hv_reply.specs.Lineages.{lineage_text}

-- whether a constant is one that a message can give: a number of an i64, a day of the years 1 to 9999, a text of at most 1,024 bytes
abbrev pub is_given : Cell → Bool
is_given cell.Missing = true
is_given (cell.Int n) = int_le (negsuc (2 ^ 63 - 1)) n && int_le n (pos (2 ^ 63 - 1))
is_given (cell.Date day) = is_day_number day
is_given (cell.Text text) = is_short text

-- whether a node's constants are, and those below it
abbrev pub given_node : Pred-F Bool → Bool
given_node (Pred-F.Cmp col relation to) = is_given to
given_node (Pred-F.Missing col) = true
given_node (Pred-F.Match col test) = is_short test.text
given_node (Pred-F.And parts) = list_all (λ p. p) parts
given_node (Pred-F.Or parts) = list_all (λ p. p) parts
given_node (Pred-F.Not of) = of

-- whether each constant of a predicate is
unfoldable pub has_given_constants : Pred → Bool
has_given_constants = fold-Pred Bool given_node

-- a predicate within the limits of a message
pub record IsGivenPred (p : Pred) : Type 0 where
  pub few : pred_nodes p ≤ MAX_NODES
  pub constants : has_given_constants p ≡ true

-- an expression within them
pub record IsGivenExpr (e : Expr) : Type 0 where
  pub few : expr_nodes e ≤ MAX_NODES
  pub texts : has_short_texts e ≡ true

-- the tree of a node is, where it has one
abbrev pub IsGivenNode : Term-F Term → Type 0
IsGivenNode Term-F.Base = Unit {0}
IsGivenNode (Term-F.Filter of p) = IsGivenPred p
IsGivenNode (Term-F.Project of cols) = Unit {0}
IsGivenNode (Term-F.Derive of name e) = IsGivenExpr e
IsGivenNode (Term-F.Sample of seed threshold) = Unit {0}
IsGivenNode (Term-F.Combine how left right) = Unit {0}

-- a base that a catalog has: its own table, or a named one of so many partitions
abbrev pub IsKnownBase : Tables → Base → Type 0
IsKnownBase tables (base.Inline columns parts) = Unit {0}
IsKnownBase tables (base.Named columns table parts) = parts_named table tables ≡ Some parts

-- a lineage that a text can give
pub record IsGiven (tables : Tables) (lineage : TermOver) : Type 0 where
  pub known : IsKnownBase tables lineage.base
  pub trees : every-Term IsGivenNode lineage.term

-- the text of a lineage reads back to the lineage
abbrev pub ReadsBack : Tables → TermOver → Type 0
ReadsBack tables lineage = lineage_of_text tables (lineage_text lineage) ≡ Ok lineage
