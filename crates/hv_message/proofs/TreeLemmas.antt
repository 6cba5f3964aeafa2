-- One level of a term.
use Rattle.std.proofs.Common.{◌≡◌, ℕ, zero, suc, ◌-◌, ◌≤◌, refl, arith, Err}
use native.Mathlib.Numerals.{unary_clauses}
use Rattle.std.specs.Prelude.{codes}
use Rattle.serde_json.specs.Data.{Data}
use Rattle.hv_asked.specs.Fields.{text_at}
use Rattle.hv_asked.specs.Flaws.{of_field}
use Rattle.hv_lineage.specs.Lineages.{TermOver}
use Rattle.hv_message.specs.LineageTexts.{term_in, term_with}
use Rattle.hv_asked.specs.declared.why.Why.TheVariants as why

pub term_in_none : (n : ℕ) (base : TermOver) (value : Data) → n ≡ 0 → term_in n base value ≡ Err why.Field
unfolding term_in
term_in_none zero base value e = refl
term_in_none (suc n) base value e = absurd (omega (arith, e))

pub term_in_level : (n : ℕ) (base : TermOver) (value : Data) → 1 ≤ n
    → term_in n base value ≡ of_field (text_at (codes "t") value) (term_with (term_in (n - 1) base) base value)
unfolding term_in
term_in_level zero base value some = absurd (omega (arith, some))
term_in_level (suc n) base value some = simp unary_clauses refl

pub ruleset one_term = (term_in_none, term_in_level)
