use Rattle.std.proofs.Common.{arith, refl}
use Rattle.std.proofs.lemmas.Bool.{ltb-true}
use Rattle.hv_quant.proofs.PairFacts.{left_out-nearest, pushed-nearest}
use Rattle.hv_quant.proofs.nearest.Nearest.add.Goals as goal

pub returns-then-pair-self : goal.returns-then-pair-self
returns-then-pair-self c = λ pairs near. left_out-nearest c.args.k pairs _ near c.args.pair (omega arith) (omega arith)

pub returns-then-len-k : goal.returns-then-len-k
returns-then-len-k c = λ pairs near. c.cut.ensures.near _ (pushed-nearest c.args.k pairs _ near c.args.pair _ refl c.in_ok-push.ensures.items)

pub returns-else-len-k : goal.returns-else-len-k
returns-else-len-k c = λ pairs near. pushed-nearest c.args.k pairs _ near c.args.pair _ refl c.in_ok-push.ensures.items
