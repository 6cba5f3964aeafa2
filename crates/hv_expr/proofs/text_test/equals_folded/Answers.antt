use Rattle.hv_expr.proofs.FoldLemmas.{same_when_folded}
use Rattle.hv_expr.proofs.text_test.equals_folded.Goals as goal

pub returns : goal.returns
returns c =
    same_when_folded c.args.own.now c.args.text.now c.default_caseless_match_str.result c.default_caseless_match_str.ensures
