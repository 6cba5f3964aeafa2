-- How many nodes predicates that are asked for have.
use Rattle.std.proofs.Common.{◌≡◌, ◌∙◌, ◌+◌, ◌≤◌, ℕ, arith, List, [], ◌∷◌, ◌++◌, map, sum, ap, sym, subst}
use Rattle.std.proofs.lemmas.List.{map-append}
use Rattle.std.proofs.lemmas.List.Sums.{fold-append}
use Rattle.hv_asked.specs.Trees.{asked_nodes, node_count}
use Rattle.hv_asked.specs.declared.pred_asked.PredAsked.{PredAsked, And, Or, Not, ind-PredAsked, map-PredAsked, roll-PredAsked}
use Rattle.hv_asked.specs.declared.pred_asked.PredAsked.TheOpen.{PredAsked-F}
use Rattle.hv_asked.specs.declared.pred_asked.PredAsked.TheVariants.{rolls-Cmp, rolls-Missing, rolls-Match, rolls-And, rolls-Or, rolls-Not}
use Rattle.hv_asked.proofs.AskedFolds.{fold-Cmp, fold-Missing, fold-Match, fold-And, fold-Or, fold-Not}

pub nodes_and : (parts : List PredAsked) → asked_nodes (And parts) ≡ sum (map asked_nodes parts) + 1
unfolding asked_nodes
nodes_and parts = fold-And ℕ node_count parts

pub nodes_or : (parts : List PredAsked) → asked_nodes (Or parts) ≡ sum (map asked_nodes parts) + 1
unfolding asked_nodes
nodes_or parts = fold-Or ℕ node_count parts

pub nodes_not : (of : PredAsked) → asked_nodes (Not of) ≡ asked_nodes of + 1
unfolding asked_nodes
nodes_not of = fold-Not ℕ node_count of

abbrev HasNodes : PredAsked → Type 0
HasNodes p = 1 ≤ asked_nodes p

layer : (y : PredAsked-F ((p : PredAsked) × HasNodes p)) → HasNodes (roll-PredAsked (map-PredAsked ((p : PredAsked) × HasNodes p) PredAsked (λ e. e.0) y))
unfolding asked_nodes
layer (PredAsked-F.Cmp col how to) = subst HasNodes (sym (rolls-Cmp col how to)) (omega (arith, fold-Cmp ℕ node_count col how to))
layer (PredAsked-F.Missing col) = subst HasNodes (sym (rolls-Missing col)) (omega (arith, fold-Missing ℕ node_count col))
layer (PredAsked-F.Match col test) = subst HasNodes (sym (rolls-Match col test)) (omega (arith, fold-Match ℕ node_count col test))
layer (PredAsked-F.And parts) = subst HasNodes (sym (rolls-And (map (λ e. e.0) parts))) (omega (arith, fold-And ℕ node_count (map (λ e. e.0) parts)))
layer (PredAsked-F.Or parts) = subst HasNodes (sym (rolls-Or (map (λ e. e.0) parts))) (omega (arith, fold-Or ℕ node_count (map (λ e. e.0) parts)))
layer (PredAsked-F.Not of) = subst HasNodes (sym (rolls-Not of.0)) (omega (arith, fold-Not ℕ node_count of.0))

-- there is one at least
pub has_nodes : (p : PredAsked) → HasNodes p
has_nodes = ind-PredAsked HasNodes (λ x y is. subst (λ z. HasNodes (roll-PredAsked z)) is (layer y))

-- those of all are those of the ones before the last, and of the last
pub nodes_last : (ps : List PredAsked) (last : PredAsked) → sum (map asked_nodes (ps ++ last ∷ [])) ≡ sum (map asked_nodes ps) + asked_nodes last
nodes_last ps last =
    ap sum (map-append asked_nodes ps (last ∷ [])) ∙ fold-append (λ (a n : ℕ). a + n) 0 (map asked_nodes ps) (asked_nodes last ∷ [])
