use Rattle.hv_find.specs.First.{matches_above}
use Rattle.hv_find.proofs.FirstFacts.{least-key}
use Rattle.hv_find.proofs.laws.first_is_least.Goals as goal

pub returns : goal.returns
returns c = λ rows. least-key c.args.find.now.order (matches_above c.args.find.now rows)
