use Rattle.hv_expr.proofs.ready_pred.ReadyPred.eval.Goals as goal

pub returns : goal.returns
returns g c = λ pred found is there. rw (← is.same found.cells, ← is.memory) (c.decide_soon.ensures found there)
