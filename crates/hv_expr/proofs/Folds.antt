-- A fold over a tree, at each of its nodes.
use Rattle.std.proofs.Common.{◌≡◌, ℤ, List, map, ap, sym, ◌∙◌}
use Rattle.hv_value.specs.declared.cell.Cell.{Cell}
use Rattle.hv_expr.specs.declared.expr.Expr.{Expr, Col, Year, Month, Day, Length, Linear, Join, fold-Expr, fold-roll-Expr}
use Rattle.hv_expr.specs.declared.expr.Expr.TheOpen.{Expr-F}
use Rattle.hv_expr.specs.declared.expr.Expr.TheVariants.{rolls-Col, rolls-Year, rolls-Month, rolls-Day, rolls-Length, rolls-Linear, rolls-Join}
use Rattle.hv_expr.specs.declared.pred.Rel.{Rel}
use Rattle.hv_expr.specs.declared.pred.Pred.{Pred, Cmp, Missing, Match, And, Or, Not, fold-Pred, fold-roll-Pred}
use Rattle.hv_expr.specs.declared.pred.Pred.TheOpen.{Pred-F}
use Rattle.hv_expr.specs.declared.pred.Pred.TheVariants.{rolls-Cmp, rolls-Missing, rolls-Match, rolls-And, rolls-Or, rolls-Not}
use Rattle.hv_expr.specs.declared.text_test.TextTest.{TextTest}
use Prim.Native.Nat.{ℕ}

module _ (A : Type 0) (step : Expr-F A → A) where
  pub fold-Col : (name : List ℕ) → fold-Expr A step (Col name) ≡ step (Expr-F.Col name)
  fold-Col name = ap (fold-Expr A step) (sym (rolls-Col name)) ∙ fold-roll-Expr A step (Expr-F.Col name)

  pub fold-Year : (of : Expr) → fold-Expr A step (Year of) ≡ step (Expr-F.Year (fold-Expr A step of))
  fold-Year of = ap (fold-Expr A step) (sym (rolls-Year of)) ∙ fold-roll-Expr A step (Expr-F.Year of)

  pub fold-Month : (of : Expr) → fold-Expr A step (Month of) ≡ step (Expr-F.Month (fold-Expr A step of))
  fold-Month of = ap (fold-Expr A step) (sym (rolls-Month of)) ∙ fold-roll-Expr A step (Expr-F.Month of)

  pub fold-Day : (of : Expr) → fold-Expr A step (Day of) ≡ step (Expr-F.Day (fold-Expr A step of))
  fold-Day of = ap (fold-Expr A step) (sym (rolls-Day of)) ∙ fold-roll-Expr A step (Expr-F.Day of)

  pub fold-Length : (of : Expr) → fold-Expr A step (Length of) ≡ step (Expr-F.Length (fold-Expr A step of))
  fold-Length of = ap (fold-Expr A step) (sym (rolls-Length of)) ∙ fold-roll-Expr A step (Expr-F.Length of)

  pub fold-Linear : (a b : ℤ) (of : Expr) → fold-Expr A step (Linear a b of) ≡ step (Expr-F.Linear a b (fold-Expr A step of))
  fold-Linear a b of = ap (fold-Expr A step) (sym (rolls-Linear a b of)) ∙ fold-roll-Expr A step (Expr-F.Linear a b of)

  pub fold-Join : (left : Expr) (between : List ℕ) (right : Expr) → fold-Expr A step (Join left between right) ≡ step (Expr-F.Join (fold-Expr A step left) between (fold-Expr A step right))
  fold-Join left between right = ap (fold-Expr A step) (sym (rolls-Join left between right)) ∙ fold-roll-Expr A step (Expr-F.Join left between right)

module _ (A : Type 0) (step : Pred-F A → A) where
  pub fold-Cmp : (col : List ℕ) (how : Rel) (to : Cell) → fold-Pred A step (Cmp col how to) ≡ step (Pred-F.Cmp col how to)
  fold-Cmp col how to = ap (fold-Pred A step) (sym (rolls-Cmp col how to)) ∙ fold-roll-Pred A step (Pred-F.Cmp col how to)

  pub fold-Missing : (col : List ℕ) → fold-Pred A step (Missing col) ≡ step (Pred-F.Missing col)
  fold-Missing col = ap (fold-Pred A step) (sym (rolls-Missing col)) ∙ fold-roll-Pred A step (Pred-F.Missing col)

  pub fold-Match : (col : List ℕ) (test : TextTest) → fold-Pred A step (Match col test) ≡ step (Pred-F.Match col test)
  fold-Match col test = ap (fold-Pred A step) (sym (rolls-Match col test)) ∙ fold-roll-Pred A step (Pred-F.Match col test)

  pub fold-And : (parts : List Pred) → fold-Pred A step (And parts) ≡ step (Pred-F.And (map (fold-Pred A step) parts))
  fold-And parts = ap (fold-Pred A step) (sym (rolls-And parts)) ∙ fold-roll-Pred A step (Pred-F.And parts)

  pub fold-Or : (parts : List Pred) → fold-Pred A step (Or parts) ≡ step (Pred-F.Or (map (fold-Pred A step) parts))
  fold-Or parts = ap (fold-Pred A step) (sym (rolls-Or parts)) ∙ fold-roll-Pred A step (Pred-F.Or parts)

  pub fold-Not : (of : Pred) → fold-Pred A step (Not of) ≡ step (Pred-F.Not (fold-Pred A step of))
  fold-Not of = ap (fold-Pred A step) (sym (rolls-Not of)) ∙ fold-roll-Pred A step (Pred-F.Not of)

pub ruleset folds = (fold-Col, fold-Year, fold-Month, fold-Day, fold-Length, fold-Linear, fold-Join, fold-Cmp, fold-Missing, fold-Match, fold-And, fold-Or, fold-Not)
