use Rattle.hv_quant.specs.SampleLaws.{sample-append}
use Rattle.hv_quant.proofs.laws.least_of_pieces.Goals as goal

pub returns-clause-rows : goal.returns-clause-rows
returns-clause-rows c = λ seed k a b. sample-append seed k c.args.order.now a b
