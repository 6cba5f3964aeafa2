-- Prepared expressions have the values of the expressions that they were made of.
use Rattle.std.proofs.Common.{◌≡◌, ℕ, ℤ, pos, Bool, true, ◌&&◌, List, length, ap, sym, subst, ◌∙◌}
use Rattle.std.proofs.lemmas.Bool.{and_from, and_parts}
use Rattle.hv_value.specs.declared.cell.Cell.{Cell}
use Rattle.hv_value.specs.Schema.{Columns, column_place}
use Rattle.hv_expr.specs.declared.expr.Expr.{Expr}
use Rattle.hv_expr.specs.declared.expr.Expr as tree
use Rattle.hv_expr.specs.declared.ready_expr.ReadyExpr.{ReadyExpr}
use Rattle.hv_expr.specs.declared.ready_expr.ReadyExpr as ready
use Rattle.hv_expr.specs.Checks.{fit_node, has_fit_factors, is_fit_factor}
use Rattle.hv_value.specs.Civil.{day_of, month_of, year_of}
use Rattle.hv_expr.specs.Values.{day_part, join_cells, length_cell, linear_cell, node_val, val}
use Rattle.hv_expr.specs.Ready.{IsReadyExpr, is_expr_node_within, is_expr_within, ready_node_val, ready_val}
use Rattle.hv_expr.proofs.Folds.{fold-Col, fold-Year, fold-Month, fold-Day, fold-Length, fold-Linear, fold-Join}
use Rattle.hv_expr.proofs.ReadyFolds.{fold-e-Col, fold-e-Year, fold-e-Month, fold-e-Day, fold-e-Length, fold-e-Linear, fold-e-Join}
use Rattle.hv_expr.proofs.ReadyLemmas.{place-within}

module _ (columns : Columns) where
  pub ready-col : (name : List ℕ) → IsReadyExpr columns (tree.Col name) (ready.Col (column_place name columns))
  unfolding is_expr_within ready_val val
  ready-col name = record {
    within = fold-e-Col Bool (is_expr_node_within (length columns)) (column_place name columns) ∙ place-within name columns;
    same = λ cells. fold-e-Col Cell (ready_node_val cells) (column_place name columns) ∙ sym (fold-Col Cell (node_val columns cells) name);
  }

  pub ready-year : (of : Expr) (made : ReadyExpr) → IsReadyExpr columns of made → IsReadyExpr columns (tree.Year of) (ready.Year made)
  unfolding is_expr_within ready_val val
  ready-year of made is = record {
    within = fold-e-Year Bool (is_expr_node_within (length columns)) made ∙ is.within;
    same = λ cells. fold-e-Year Cell (ready_node_val cells) made ∙ (ap (day_part (λ day. pos (year_of day))) (is.same cells) ∙ sym (fold-Year Cell (node_val columns cells) of));
  }

  pub ready-month : (of : Expr) (made : ReadyExpr) → IsReadyExpr columns of made → IsReadyExpr columns (tree.Month of) (ready.Month made)
  unfolding is_expr_within ready_val val
  ready-month of made is = record {
    within = fold-e-Month Bool (is_expr_node_within (length columns)) made ∙ is.within;
    same = λ cells. fold-e-Month Cell (ready_node_val cells) made ∙ (ap (day_part (λ day. pos (month_of day))) (is.same cells) ∙ sym (fold-Month Cell (node_val columns cells) of));
  }

  pub ready-day : (of : Expr) (made : ReadyExpr) → IsReadyExpr columns of made → IsReadyExpr columns (tree.Day of) (ready.Day made)
  unfolding is_expr_within ready_val val
  ready-day of made is = record {
    within = fold-e-Day Bool (is_expr_node_within (length columns)) made ∙ is.within;
    same = λ cells. fold-e-Day Cell (ready_node_val cells) made ∙ (ap (day_part day_of) (is.same cells) ∙ sym (fold-Day Cell (node_val columns cells) of));
  }

  pub ready-length : (of : Expr) (made : ReadyExpr) → IsReadyExpr columns of made → IsReadyExpr columns (tree.Length of) (ready.Length made)
  unfolding is_expr_within ready_val val
  ready-length of made is = record {
    within = fold-e-Length Bool (is_expr_node_within (length columns)) made ∙ is.within;
    same = λ cells. fold-e-Length Cell (ready_node_val cells) made ∙ (ap length_cell (is.same cells) ∙ sym (fold-Length Cell (node_val columns cells) of));
  }

  pub ready-linear : (a b : ℤ) (of : Expr) (made : ReadyExpr) → has_fit_factors (tree.Linear a b of) ≡ true → IsReadyExpr columns of made
      → IsReadyExpr columns (tree.Linear a b of) (ready.Linear a b made)
  unfolding is_expr_within ready_val val has_fit_factors
  ready-linear a b of made fit is =
      let whole = and_parts (is_fit_factor a && is_fit_factor b) (has_fit_factors of) (sym (fold-Linear Bool fit_node a b of) ∙ fit) in
      record {
        within = fold-e-Linear Bool (is_expr_node_within (length columns)) a b made
            ∙ and_from (is_fit_factor a && is_fit_factor b) (is_expr_within (length columns) made) whole.0 is.within;
        same = λ cells. fold-e-Linear Cell (ready_node_val cells) a b made
            ∙ (ap (linear_cell a b) (is.same cells) ∙ sym (fold-Linear Cell (node_val columns cells) a b of));
      }

  -- the same, of a factor and a summand that are computed to be these
  pub ready-linear-of : (a b a' b' : ℤ) (of : Expr) (made : ReadyExpr) → a' ≡ a → b' ≡ b → has_fit_factors (tree.Linear a b of) ≡ true
      → IsReadyExpr columns of made → IsReadyExpr columns (tree.Linear a b of) (ready.Linear a' b' made)
  ready-linear-of a b a' b' of made same_a same_b fit is =
      let whole = ready-linear a b of made fit is in
      let first = subst (λ z. IsReadyExpr columns (tree.Linear a b of) (ready.Linear z b made)) (sym same_a) whole in
      subst (λ z. IsReadyExpr columns (tree.Linear a b of) (ready.Linear a' z made)) (sym same_b) first

  pub ready-join : (left : Expr) (between : List ℕ) (right : Expr) (first second : ReadyExpr) → IsReadyExpr columns left first → IsReadyExpr columns right second
      → IsReadyExpr columns (tree.Join left between right) (ready.Join first between second)
  unfolding is_expr_within ready_val val
  ready-join left between right first second is_first is_second = record {
    within = fold-e-Join Bool (is_expr_node_within (length columns)) first between second
        ∙ and_from (is_expr_within (length columns) first) (is_expr_within (length columns) second) is_first.within is_second.within;
    same = λ cells. fold-e-Join Cell (ready_node_val cells) first between second
        ∙ (ap (λ l. join_cells l between (ready_val cells second)) (is_first.same cells)
        ∙ (ap (join_cells (val columns cells left) between) (is_second.same cells) ∙ sym (fold-Join Cell (node_val columns cells) left between right)));
  }
