-- Lineages as JSON: the base, and the term over it with every field of its predicates and expressions. This project's own rule.
use Rattle.std.specs.Prelude.{ℕ, List, [], ◌∷◌, map, codes, Bool, true, ◌&&◌}
use Rattle.serde_json.specs.Data.{Data, boolean, number, string, object, member, no_members}
use Rattle.serde_json.specs.Find.{of_integer}
use Rattle.serde_json.specs.Written.{compact_text}
use Rattle.hv_value.specs.Schema.{Columns}
use Rattle.hv_value.specs.declared.cell.Kind.{Kind}
use Rattle.hv_expr.specs.Checks.{has_fit_factors}
use Rattle.hv_expr.specs.declared.expr.Expr.{Expr, fold-Expr}
use Rattle.hv_expr.specs.declared.expr.Expr.TheOpen.{Expr-F}
use Rattle.hv_expr.specs.declared.pred.Pred.{Pred, fold-Pred}
use Rattle.hv_expr.specs.declared.pred.Pred.TheOpen.{Pred-F}
use Rattle.hv_lineage.specs.declared.base.Base.{Base}
use Rattle.hv_lineage.specs.declared.base.Base.TheVariants as base
use Rattle.hv_lineage.specs.declared.term.Term.{Term, fold-Term}
use Rattle.hv_lineage.specs.declared.term.Term.TheOpen.{Term-F}
use Rattle.hv_lineage.specs.Lineages.{TermOver}
use Rattle.hv_asked.specs.Words.{how_word, kind_word, rel_word}
use Rattle.hv_message.specs.Words.{how2_word}
use Rattle.hv_reply.specs.Values.{cell_data, list_of, whole}

-- ---- schemas and bases

-- a column: its name and its kind
abbrev pub column_data : List ℕ × Kind → Data
column_data column = list_of (string column.0 ∷ string (kind_word column.1) ∷ [])

abbrev pub columns_data : Columns → Data
columns_data columns = list_of (map column_data columns)

abbrev pub texts_data : List (List ℕ) → Data
texts_data texts = list_of (map string texts)

-- a base, in the form in which a load gives it
abbrev pub base_data : Base → Data
base_data (base.Inline columns parts) = object (member (codes "inline") (object (member (codes "parts") (texts_data parts)
    (member (codes "schema") (columns_data columns) no_members))) no_members)
base_data (base.Named columns table parts) = object (member (codes "named") (object (member (codes "schema") (columns_data columns)
    (member (codes "table") (string table) no_members))) no_members)

-- ---- predicates and expressions

-- a list of predicates under a word
abbrev pub listed : List ℕ → List Data → Data
listed word parts = object (member (codes "of") (list_of parts) (member (codes "p") (string word) no_members))

abbrev pub pred_node_data : Pred-F Data → Data
pred_node_data (Pred-F.Cmp col relation to) = object (member (codes "col") (string col)
    (member (codes "how") (string (rel_word relation))
    (member (codes "p") (string (codes "cmp"))
    (member (codes "to") (cell_data to) no_members))))
pred_node_data (Pred-F.Missing col) = object (member (codes "col") (string col) (member (codes "p") (string (codes "missing")) no_members))
pred_node_data (Pred-F.Match col test) = object (member (codes "col") (string col)
    (member (codes "fold") (boolean test.fold)
    (member (codes "how") (string (how_word test.how))
    (member (codes "p") (string (codes "text"))
    (member (codes "text") (string test.text) no_members)))))
pred_node_data (Pred-F.And parts) = listed (codes "and") parts
pred_node_data (Pred-F.Or parts) = listed (codes "or") parts
pred_node_data (Pred-F.Not of) = object (member (codes "of") of (member (codes "p") (string (codes "not")) no_members))

-- a predicate
unfoldable pub pred_data : Pred → Data
pred_data = fold-Pred Data pred_node_data

-- an expression of one operand, by its word
abbrev pub operated : List ℕ → Data → Data
operated word of = object (member (codes "e") (string word) (member (codes "of") of no_members))

abbrev pub expr_node_data : Expr-F Data → Data
expr_node_data (Expr-F.Col name) = object (member (codes "col") (string name) (member (codes "e") (string (codes "col")) no_members))
expr_node_data (Expr-F.Year of) = operated (codes "year") of
expr_node_data (Expr-F.Month of) = operated (codes "month") of
expr_node_data (Expr-F.Day of) = operated (codes "day") of
expr_node_data (Expr-F.Length of) = operated (codes "length") of
expr_node_data (Expr-F.Linear a b of) = object (member (codes "a") (number (of_integer a))
    (member (codes "b") (number (of_integer b))
    (member (codes "e") (string (codes "linear"))
    (member (codes "of") of no_members))))
expr_node_data (Expr-F.Join left between right) = object (member (codes "between") (string between)
    (member (codes "e") (string (codes "join"))
    (member (codes "left") left
    (member (codes "right") right no_members))))

-- an expression
unfoldable pub expr_data : Expr → Data
expr_data = fold-Expr Data expr_node_data

-- ---- terms

abbrev pub term_node_data : Term-F Data → Data
term_node_data Term-F.Base = object (member (codes "t") (string (codes "base")) no_members)
term_node_data (Term-F.Filter of p) = object (member (codes "of") of
    (member (codes "pred") (pred_data p)
    (member (codes "t") (string (codes "filter")) no_members)))
term_node_data (Term-F.Project of cols) = object (member (codes "cols") (texts_data cols)
    (member (codes "of") of
    (member (codes "t") (string (codes "project")) no_members)))
term_node_data (Term-F.Derive of name e) = object (member (codes "expr") (expr_data e)
    (member (codes "name") (string name)
    (member (codes "of") of
    (member (codes "t") (string (codes "derive")) no_members))))
term_node_data (Term-F.Sample of seed threshold) = object (member (codes "of") of
    (member (codes "seed") (whole seed)
    (member (codes "t") (string (codes "sample"))
    (member (codes "threshold") (whole threshold) no_members))))
term_node_data (Term-F.Combine how left right) = object (member (codes "how") (string (how2_word how))
    (member (codes "left") left
    (member (codes "right") right
    (member (codes "t") (string (codes "combine")) no_members))))

-- a term
unfoldable pub term_data : Term → Data
term_data = fold-Term Data term_node_data

-- whether a node's expression has factors and summands of 64 bits, where it has one, and so below it
abbrev pub fit_term_node : Term-F Bool → Bool
fit_term_node Term-F.Base = true
fit_term_node (Term-F.Filter of p) = of
fit_term_node (Term-F.Project of cols) = of
fit_term_node (Term-F.Derive of name e) = of && has_fit_factors e
fit_term_node (Term-F.Sample of seed threshold) = of
fit_term_node (Term-F.Combine how left right) = left && right

-- whether each factor and summand of a term's expressions is a number of 64 bits, with a sign or without
unfoldable pub has_fit_numbers : Term → Bool
has_fit_numbers = fold-Term Bool fit_term_node

-- a lineage: its base and its term
abbrev pub lineage_data : TermOver → Data
lineage_data lineage = object (member (codes "base") (base_data lineage.base) (member (codes "term") (term_data lineage.term) no_members))

-- the text of a lineage
abbrev pub lineage_text : TermOver → List ℕ
lineage_text lineage = compact_text (lineage_data lineage)
