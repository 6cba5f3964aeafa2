-- One level of a predicate and of an expression.
use Rattle.std.proofs.Common.{◌≡◌, ℕ, zero, suc, ◌-◌, ◌≤◌, refl, arith, None}
use native.Mathlib.Numerals.{unary_clauses}
use Rattle.std.specs.Prelude.{codes}
use Rattle.serde_json.specs.Data.{Data}
use Rattle.hv_asked.specs.Fields.{shaped, text_at}
use Rattle.hv_asked.specs.Trees.{pred_in, pred_with, expr_in, expr_with}

pub pred_in_none : (n : ℕ) (value : Data) → n ≡ 0 → pred_in n value ≡ None
unfolding pred_in
pred_in_none zero value e = refl
pred_in_none (suc n) value e = absurd (omega (arith, e))

pub pred_in_level : (n : ℕ) (value : Data) → 1 ≤ n → pred_in n value ≡ shaped (text_at (codes "p") value) (pred_with (pred_in (n - 1)) value)
unfolding pred_in
pred_in_level zero value some = absurd (omega (arith, some))
pred_in_level (suc n) value some = simp unary_clauses refl

pub expr_in_none : (n : ℕ) (value : Data) → n ≡ 0 → expr_in n value ≡ None
unfolding expr_in
expr_in_none zero value e = refl
expr_in_none (suc n) value e = absurd (omega (arith, e))

pub expr_in_level : (n : ℕ) (value : Data) → 1 ≤ n → expr_in n value ≡ shaped (text_at (codes "e") value) (expr_with (expr_in (n - 1)) value)
unfolding expr_in
expr_in_level zero value some = absurd (omega (arith, some))
expr_in_level (suc n) value some = simp unary_clauses refl

pub ruleset one_level = (pred_in_none, pred_in_level, expr_in_none, expr_in_level)
