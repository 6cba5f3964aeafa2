-- A fold over a predicate that is asked for, at each of its nodes, and tests of lists of such.
use Rattle.std.proofs.Common.{◌≡◌, refl, List, [], ◌∷◌, ◌++◌, map, Bool, true, ap, sym, ◌∙◌}
use Rattle.std.specs.Prelude.{◌&&◌}
use Rattle.std.specs.List.{list_all}
use Rattle.std.specs.Cmp.{first_so, second_so}
use Rattle.hv_expr.specs.declared.pred.Rel.{Rel}
use Rattle.hv_expr.specs.declared.text_test.TextTest.{TextTest}
use Rattle.hv_asked.specs.declared.asked.CellAsked.{CellAsked}
use Rattle.hv_asked.specs.declared.pred_asked.PredAsked.{PredAsked, Cmp, Missing, Match, And, Or, Not, fold-PredAsked, fold-roll-PredAsked}
use Rattle.hv_asked.specs.declared.pred_asked.PredAsked.TheOpen.{PredAsked-F}
use Rattle.hv_asked.specs.declared.pred_asked.PredAsked.TheVariants.{rolls-Cmp, rolls-Missing, rolls-Match, rolls-And, rolls-Or, rolls-Not}
use Rattle.hv_asked.specs.Trees.{fit_constant, has_fit_constants}
use Prim.Native.Nat.{ℕ}

module _ (A : Type 0) (step : PredAsked-F A → A) where
  pub fold-Cmp : (col : List ℕ) (how : Rel) (to : CellAsked) → fold-PredAsked A step (Cmp col how to) ≡ step (PredAsked-F.Cmp col how to)
  fold-Cmp col how to = ap (fold-PredAsked A step) (sym (rolls-Cmp col how to)) ∙ fold-roll-PredAsked A step (PredAsked-F.Cmp col how to)

  pub fold-Missing : (col : List ℕ) → fold-PredAsked A step (Missing col) ≡ step (PredAsked-F.Missing col)
  fold-Missing col = ap (fold-PredAsked A step) (sym (rolls-Missing col)) ∙ fold-roll-PredAsked A step (PredAsked-F.Missing col)

  pub fold-Match : (col : List ℕ) (test : TextTest) → fold-PredAsked A step (Match col test) ≡ step (PredAsked-F.Match col test)
  fold-Match col test = ap (fold-PredAsked A step) (sym (rolls-Match col test)) ∙ fold-roll-PredAsked A step (PredAsked-F.Match col test)

  pub fold-And : (parts : List PredAsked) → fold-PredAsked A step (And parts) ≡ step (PredAsked-F.And (map (fold-PredAsked A step) parts))
  fold-And parts = ap (fold-PredAsked A step) (sym (rolls-And parts)) ∙ fold-roll-PredAsked A step (PredAsked-F.And parts)

  pub fold-Or : (parts : List PredAsked) → fold-PredAsked A step (Or parts) ≡ step (PredAsked-F.Or (map (fold-PredAsked A step) parts))
  fold-Or parts = ap (fold-PredAsked A step) (sym (rolls-Or parts)) ∙ fold-roll-PredAsked A step (PredAsked-F.Or parts)

  pub fold-Not : (of : PredAsked) → fold-PredAsked A step (Not of) ≡ step (PredAsked-F.Not (fold-PredAsked A step of))
  fold-Not of = ap (fold-PredAsked A step) (sym (rolls-Not of)) ∙ fold-roll-PredAsked A step (PredAsked-F.Not of)

-- all that a test says of a list's items
pub all_said : (test : PredAsked → Bool) (ps : List PredAsked) → list_all (λ said. said) (map test ps) ≡ list_all test ps
all_said test [] = refl
all_said test (p ∷ ps) = ap (λ more. test p && more) (all_said test ps)

pub ruleset folds = (fold-Cmp, fold-Missing, fold-Match, fold-And, fold-Or, fold-Not, all_said)

pub fit_and : (parts : List PredAsked) → has_fit_constants (And parts) ≡ list_all has_fit_constants parts
unfolding has_fit_constants
fit_and parts = fold-And Bool fit_constant parts ∙ all_said has_fit_constants parts

pub fit_or : (parts : List PredAsked) → has_fit_constants (Or parts) ≡ list_all has_fit_constants parts
unfolding has_fit_constants
fit_or parts = fold-Or Bool fit_constant parts ∙ all_said has_fit_constants parts

pub fit_not : (of : PredAsked) → has_fit_constants (Not of) ≡ has_fit_constants of
unfolding has_fit_constants
fit_not of = fold-Not Bool fit_constant of

-- what holds of all holds of those before the last
pub all_front : (test : PredAsked → Bool) (ps : List PredAsked) (last : PredAsked) → list_all test (ps ++ last ∷ []) ≡ true → list_all test ps ≡ true
all_front test [] last e = refl
all_front test (p ∷ ps) last e =
    let more = list_all test (ps ++ last ∷ []) in
    ap (λ here. here && list_all test ps) (first_so (test p) more e) ∙ all_front test ps last (second_so (test p) more e)

-- and of the last
pub all_last : (test : PredAsked → Bool) (ps : List PredAsked) (last : PredAsked) → list_all test (ps ++ last ∷ []) ≡ true → test last ≡ true
all_last test [] last e = first_so (test last) true e
all_last test (p ∷ ps) last e = all_last test ps last (second_so (test p) (list_all test (ps ++ last ∷ [])) e)
