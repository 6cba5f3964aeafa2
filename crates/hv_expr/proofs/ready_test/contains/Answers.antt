use Rattle.std.proofs.Common.{◌∙◌}
use Rattle.hv_expr.proofs.ContainsLemmas.{contains-found}
use Rattle.hv_expr.proofs.ready_test.contains.Goals as goal

pub returns : goal.returns
returns c =
    rw c.as_bytes.ensures.value at (c.is_some.ensures ∙ contains-found c.args.search.now c.as_bytes.result.now c.find.result c.find.ensures)
