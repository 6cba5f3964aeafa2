-- What a hash of a test, an expression or a predicate writes: a number for the node, then its parts in order.
use Rattle.std.specs.Prelude.{ℕ, List, ◌++◌, flat_map}
use Rattle.std.specs.Hash as fed
use Rattle.hv_value.specs.Hashes.{cell_writes}
use Rattle.hv_expr.specs.declared.expr.Expr.{Expr, fold-Expr}
use Rattle.hv_expr.specs.declared.expr.Expr.TheOpen.{Expr-F}
use Rattle.hv_expr.specs.declared.pred.Pred.{Pred, fold-Pred}
use Rattle.hv_expr.specs.declared.pred.Pred.TheOpen.{Pred-F}
use Rattle.hv_expr.specs.declared.pred.Rel.{Rel}
use Rattle.hv_expr.specs.declared.pred.Rel.TheVariants as rel
use Rattle.hv_expr.specs.declared.text_test.How.{How}
use Rattle.hv_expr.specs.declared.text_test.How.TheVariants as how
use Rattle.hv_expr.specs.declared.text_test.TextTest.{TextTest}

abbrev pub rel_number : Rel → ℕ
rel_number rel.Lt = 0
rel_number rel.Le = 1
rel_number rel.Eq = 2
rel_number rel.Ne = 3
rel_number rel.Ge = 4
rel_number rel.Gt = 5

abbrev pub how_number : How → ℕ
how_number how.Equals = 0
how_number how.Contains = 1
how_number how.Begins = 2

abbrev pub test_writes : TextTest → List (List ℕ)
test_writes test = fed.u8 (how_number test.how) ++ fed.bool test.fold ++ fed.str test.text

abbrev pub expr_node_writes : Expr-F (List (List ℕ)) → List (List ℕ)
expr_node_writes (Expr-F.Col name) = fed.u8 0 ++ fed.str name
expr_node_writes (Expr-F.Year of) = fed.u8 1 ++ of
expr_node_writes (Expr-F.Month of) = fed.u8 2 ++ of
expr_node_writes (Expr-F.Day of) = fed.u8 3 ++ of
expr_node_writes (Expr-F.Length of) = fed.u8 4 ++ of
expr_node_writes (Expr-F.Linear a b of) = fed.u8 5 ++ fed.i128 a ++ fed.i128 b ++ of
expr_node_writes (Expr-F.Join left between right) = fed.u8 6 ++ left ++ fed.str between ++ right

unfoldable pub expr_writes : Expr → List (List ℕ)
expr_writes = fold-Expr (List (List ℕ)) expr_node_writes

abbrev pub pred_node_writes : Pred-F (List (List ℕ)) → List (List ℕ)
pred_node_writes (Pred-F.Cmp col how to) = fed.u8 0 ++ fed.str col ++ fed.u8 (rel_number how) ++ cell_writes to
pred_node_writes (Pred-F.Missing col) = fed.u8 1 ++ fed.str col
pred_node_writes (Pred-F.Match col test) = fed.u8 2 ++ fed.str col ++ test_writes test
pred_node_writes (Pred-F.And parts) = fed.u8 3 ++ flat_map (λ part. part) parts
pred_node_writes (Pred-F.Or parts) = fed.u8 4 ++ flat_map (λ part. part) parts
pred_node_writes (Pred-F.Not of) = fed.u8 5 ++ of

unfoldable pub pred_writes : Pred → List (List ℕ)
pred_writes = fold-Pred (List (List ℕ)) pred_node_writes
