use Rattle.serde_json.proofs.Nesting.{depth-read}
use Rattle.hv_message.proofs.LevelLemmas.{enough_for_exprs, enough_for_preds, enough_for_terms}
use Rattle.hv_message.proofs.laws.levels_are_enough.Goals as goal

pub returns-clause-pred : goal.returns-clause-pred
returns-clause-pred c = λ text value n is more. enough_for_preds n value (depth-read text value is) more

pub returns-clause-expr : goal.returns-clause-expr
returns-clause-expr c = λ text value n is more. enough_for_exprs n value (depth-read text value is) more

pub returns-clause-term : goal.returns-clause-term
returns-clause-term c = λ text value n base is more. enough_for_terms base n value (depth-read text value is) more
