-- How deep trees are and how many nodes they have.
use Rattle.std.specs.Prelude.{ℕ, ◌+◌, max, List, [], ◌∷◌, sum}
use Rattle.hv_expr.specs.declared.expr.Expr.{Expr, fold-Expr}
use Rattle.hv_expr.specs.declared.expr.Expr.TheOpen.{Expr-F}
use Rattle.hv_expr.specs.declared.pred.Pred.{Pred, fold-Pred}
use Rattle.hv_expr.specs.declared.pred.Pred.TheOpen.{Pred-F}

-- a number for each node: one more than what its children's numbers join to
abbrev pub expr_measure : (ℕ → ℕ → ℕ) → Expr-F ℕ → ℕ
expr_measure join (Expr-F.Col name) = 1
expr_measure join (Expr-F.Year of) = of + 1
expr_measure join (Expr-F.Month of) = of + 1
expr_measure join (Expr-F.Day of) = of + 1
expr_measure join (Expr-F.Length of) = of + 1
expr_measure join (Expr-F.Linear a b of) = of + 1
expr_measure join (Expr-F.Join left between right) = join left right + 1

-- the same of a predicate
abbrev pub pred_measure : (List ℕ → ℕ) → Pred-F ℕ → ℕ
pred_measure join (Pred-F.Cmp col how to) = 1
pred_measure join (Pred-F.Missing col) = 1
pred_measure join (Pred-F.Match col test) = 1
pred_measure join (Pred-F.And parts) = join parts + 1
pred_measure join (Pred-F.Or parts) = join parts + 1
pred_measure join (Pred-F.Not of) = of + 1

-- the greatest of some numbers, 0 of none
abbrev pub greatest : List ℕ → ℕ
greatest [] = 0
greatest (n ∷ ns) = max n (greatest ns)

-- the depth of a tree, a leaf having 1
unfoldable pub expr_depth : Expr → ℕ
expr_depth = fold-Expr ℕ (expr_measure max)

unfoldable pub pred_depth : Pred → ℕ
pred_depth = fold-Pred ℕ (pred_measure greatest)

-- the number of a tree's nodes
unfoldable pub expr_nodes : Expr → ℕ
expr_nodes = fold-Expr ℕ (expr_measure (λ left right. left + right))

unfoldable pub pred_nodes : Pred → ℕ
pred_nodes = fold-Pred ℕ (pred_measure sum)
