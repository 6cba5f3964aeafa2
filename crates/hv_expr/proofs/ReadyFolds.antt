-- A fold over a prepared tree, at each of its nodes.
use Rattle.std.proofs.Common.{◌≡◌, ℕ, ℤ, List, map, Option, ap, sym, ◌∙◌}
use Rattle.hv_value.specs.declared.cell.Cell.{Cell}
use Rattle.hv_expr.specs.declared.pred.Rel.{Rel}
use Rattle.hv_expr.specs.declared.ready_test.ReadyTest.{ReadyTest}
use Rattle.hv_expr.specs.declared.ready_expr.ReadyExpr.{ReadyExpr, fold-ReadyExpr, fold-roll-ReadyExpr}
use Rattle.hv_expr.specs.declared.ready_expr.ReadyExpr as e
use Rattle.hv_expr.specs.declared.ready_expr.ReadyExpr.TheOpen.{ReadyExpr-F}
use Rattle.hv_expr.specs.declared.ready_expr.ReadyExpr.TheVariants as ev
use Rattle.hv_expr.specs.declared.ready_pred.ReadyPred.{ReadyPred, fold-ReadyPred, fold-roll-ReadyPred}
use Rattle.hv_expr.specs.declared.ready_pred.ReadyPred as p
use Rattle.hv_expr.specs.declared.ready_pred.ReadyPred.TheOpen.{ReadyPred-F}
use Rattle.hv_expr.specs.declared.ready_pred.ReadyPred.TheVariants as pv

module _ (A : Type 0) (step : ReadyExpr-F A → A) where
  pub fold-e-Col : (place : Option ℕ) → fold-ReadyExpr A step (e.Col place) ≡ step (ReadyExpr-F.Col place)
  fold-e-Col place = ap (fold-ReadyExpr A step) (sym (ev.rolls-Col place)) ∙ fold-roll-ReadyExpr A step (ReadyExpr-F.Col place)

  pub fold-e-Year : (of : ReadyExpr) → fold-ReadyExpr A step (e.Year of) ≡ step (ReadyExpr-F.Year (fold-ReadyExpr A step of))
  fold-e-Year of = ap (fold-ReadyExpr A step) (sym (ev.rolls-Year of)) ∙ fold-roll-ReadyExpr A step (ReadyExpr-F.Year of)

  pub fold-e-Month : (of : ReadyExpr) → fold-ReadyExpr A step (e.Month of) ≡ step (ReadyExpr-F.Month (fold-ReadyExpr A step of))
  fold-e-Month of = ap (fold-ReadyExpr A step) (sym (ev.rolls-Month of)) ∙ fold-roll-ReadyExpr A step (ReadyExpr-F.Month of)

  pub fold-e-Day : (of : ReadyExpr) → fold-ReadyExpr A step (e.Day of) ≡ step (ReadyExpr-F.Day (fold-ReadyExpr A step of))
  fold-e-Day of = ap (fold-ReadyExpr A step) (sym (ev.rolls-Day of)) ∙ fold-roll-ReadyExpr A step (ReadyExpr-F.Day of)

  pub fold-e-Length : (of : ReadyExpr) → fold-ReadyExpr A step (e.Length of) ≡ step (ReadyExpr-F.Length (fold-ReadyExpr A step of))
  fold-e-Length of = ap (fold-ReadyExpr A step) (sym (ev.rolls-Length of)) ∙ fold-roll-ReadyExpr A step (ReadyExpr-F.Length of)

  pub fold-e-Linear : (a b : ℤ) (of : ReadyExpr) → fold-ReadyExpr A step (e.Linear a b of) ≡ step (ReadyExpr-F.Linear a b (fold-ReadyExpr A step of))
  fold-e-Linear a b of = ap (fold-ReadyExpr A step) (sym (ev.rolls-Linear a b of)) ∙ fold-roll-ReadyExpr A step (ReadyExpr-F.Linear a b of)

  pub fold-e-Join : (left : ReadyExpr) (between : List ℕ) (right : ReadyExpr) → fold-ReadyExpr A step (e.Join left between right) ≡ step (ReadyExpr-F.Join (fold-ReadyExpr A step left) between (fold-ReadyExpr A step right))
  fold-e-Join left between right = ap (fold-ReadyExpr A step) (sym (ev.rolls-Join left between right)) ∙ fold-roll-ReadyExpr A step (ReadyExpr-F.Join left between right)

module _ (A : Type 0) (step : ReadyPred-F A → A) where
  pub fold-p-Cmp : (place : Option ℕ) (how : Rel) (to : Cell) → fold-ReadyPred A step (p.Cmp place how to) ≡ step (ReadyPred-F.Cmp place how to)
  fold-p-Cmp place how to = ap (fold-ReadyPred A step) (sym (pv.rolls-Cmp place how to)) ∙ fold-roll-ReadyPred A step (ReadyPred-F.Cmp place how to)

  pub fold-p-Missing : (place : Option ℕ) → fold-ReadyPred A step (p.Missing place) ≡ step (ReadyPred-F.Missing place)
  fold-p-Missing place = ap (fold-ReadyPred A step) (sym (pv.rolls-Missing place)) ∙ fold-roll-ReadyPred A step (ReadyPred-F.Missing place)

  pub fold-p-Match : (place : Option ℕ) (test : ReadyTest) → fold-ReadyPred A step (p.Match place test) ≡ step (ReadyPred-F.Match place test)
  fold-p-Match place test = ap (fold-ReadyPred A step) (sym (pv.rolls-Match place test)) ∙ fold-roll-ReadyPred A step (ReadyPred-F.Match place test)

  pub fold-p-And : (parts : List ReadyPred) → fold-ReadyPred A step (p.And parts) ≡ step (ReadyPred-F.And (map (fold-ReadyPred A step) parts))
  fold-p-And parts = ap (fold-ReadyPred A step) (sym (pv.rolls-And parts)) ∙ fold-roll-ReadyPred A step (ReadyPred-F.And parts)

  pub fold-p-Or : (parts : List ReadyPred) → fold-ReadyPred A step (p.Or parts) ≡ step (ReadyPred-F.Or (map (fold-ReadyPred A step) parts))
  fold-p-Or parts = ap (fold-ReadyPred A step) (sym (pv.rolls-Or parts)) ∙ fold-roll-ReadyPred A step (ReadyPred-F.Or parts)

  pub fold-p-Not : (of : ReadyPred) → fold-ReadyPred A step (p.Not of) ≡ step (ReadyPred-F.Not (fold-ReadyPred A step of))
  fold-p-Not of = ap (fold-ReadyPred A step) (sym (pv.rolls-Not of)) ∙ fold-roll-ReadyPred A step (ReadyPred-F.Not of)

pub ruleset folds = (fold-e-Col, fold-e-Year, fold-e-Month, fold-e-Day, fold-e-Length, fold-e-Linear, fold-e-Join, fold-p-Cmp, fold-p-Missing, fold-p-Match, fold-p-And, fold-p-Or, fold-p-Not)
