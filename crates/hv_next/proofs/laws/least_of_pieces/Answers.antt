use Rattle.hv_next.specs.NextLaws.{next_of-append}
use Rattle.hv_next.proofs.laws.least_of_pieces.Goals as goal

pub returns-clause-rows : goal.returns-clause-rows
returns-clause-rows c = λ after k a b. next_of-append c.args.order.now after k a b
