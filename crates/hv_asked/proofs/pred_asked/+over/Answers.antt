use Rattle.std.proofs.Common.{◌≡◌, ◌∙◌, arith, true, map, sum, ap, sym, subst}
use Rattle.std.specs.List.{list_all}
use Rattle.hv_expr.specs.declared.pred.Pred.{Pred}
use Rattle.hv_asked.specs.Trees.{asked_nodes, dated_node, dated_pred, has_fit_constants}
use Rattle.hv_asked.proofs.AskedFolds.{all_front, all_last, fit_and, fit_not, fit_or, fold-Cmp}
use Rattle.hv_asked.proofs.AskedNodes.{has_nodes, nodes_and, nodes_last, nodes_not, nodes_or}
use Rattle.hv_asked.proofs.pred_asked.+over.Goals as goal

-- all that are joined have fewer nodes, and are within their limits
pub PredAsked::over-all_over-requires : goal.PredAsked::over-all_over-requires
PredAsked::over-all_over-requires t c =
    (omega (arith, c.decreases, ap asked_nodes c.in-And.is ∙ nodes_and c.in-And.parts), sym (fit_and c.in-And.parts) ∙ (rw c.in-And.is at c.requires))

pub PredAsked::over-all_over-requires-in-Or : goal.PredAsked::over-all_over-requires-in-Or
PredAsked::over-all_over-requires-in-Or t c =
    (omega (arith, c.decreases, ap asked_nodes c.in-Or.is ∙ nodes_or c.in-Or.parts), sym (fit_or c.in-Or.parts) ∙ (rw c.in-Or.is at c.requires))

-- and so is the one that is denied
pub PredAsked::over-over-requires : goal.PredAsked::over-over-requires
PredAsked::over-over-requires t c = rw c.into_inner.ensures
    (omega (arith, c.decreases, ap asked_nodes c.in-Not.is ∙ nodes_not c.in-Not.of), sym (fit_not c.in-Not.of) ∙ (rw c.in-Not.is at c.requires))

pub PredAsked::over-returns-in-Cmp : goal.PredAsked::over-returns-in-Cmp
unfolding dated_pred
PredAsked::over-returns-in-Cmp t c =
    rw (c.in-Cmp.is, c.cell_beside-to.ensures, c.kind_of.ensures, c.as_str.ensures)
    (sym (fold-Cmp Pred (dated_node c.args.schema.now) c.in-Cmp.col c.in-Cmp.how c.in-Cmp.to))

-- and so are those before the last
pub all_over-all_over-requires : goal.all_over-all_over-requires
all_over-all_over-requires t c = (
  omega (arith, c.decreases, has_nodes c.in-Some.last, ap (λ ps. sum (map asked_nodes ps)) c.in-Some.ensures ∙ nodes_last c.pop.new.self c.in-Some.last),
  all_front has_fit_constants c.pop.new.self c.in-Some.last (subst (λ ps. list_all has_fit_constants ps ≡ true) c.in-Some.ensures c.requires),
)

-- and the last
pub all_over-over-requires : goal.all_over-over-requires
all_over-over-requires t c = (
  omega (arith, c.decreases, ap (λ ps. sum (map asked_nodes ps)) c.in-Some.ensures ∙ nodes_last c.pop.new.self c.in-Some.last),
  all_last has_fit_constants c.pop.new.self c.in-Some.last (subst (λ ps. list_all has_fit_constants ps ≡ true) c.in-Some.ensures c.requires),
)
