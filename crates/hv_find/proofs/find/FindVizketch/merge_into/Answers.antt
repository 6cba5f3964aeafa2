use Rattle.std.proofs.Common.{arith}
use Rattle.hv_find.proofs.FindFacts.{found-above, found-before, found-key, found-sum}
use Rattle.hv_find.specs.FindLaws.{same}
use Rattle.hv_find.proofs.find.FindVizketch.merge_into.Goals as goal

pub put_key-requires-clause-one_each : goal.put_key-requires-clause-one_each
put_key-requires-clause-one_each c = found-key c.args.self.now c.requires.0 _ c.requires.2

pub put_key-requires-clause-other_each : goal.put_key-requires-clause-other_each
put_key-requires-clause-other_each c = found-key c.args.self.now c.requires.1 _ c.requires.3

pub overflow_add-acc : goal.overflow_add-acc
overflow_add-acc c =
    let view = c.args.self.now in
    omega (arith, found-above view c.requires.0 _ c.requires.2, found-above view c.requires.1 _ c.requires.3)

pub overflow_add-acc-2 : goal.overflow_add-acc-2
overflow_add-acc-2 c =
    let view = c.args.self.now in
    omega (arith, found-before view c.requires.0 _ c.requires.2, found-before view c.requires.1 _ c.requires.3)

pub returns-clause-ok : goal.returns-clause-ok
returns-clause-ok c = λ a b first second can.
    found-sum c.args.self.now a b _ _ _ first second can
    (same _ _ _ _ _ _ (omega arith) (omega arith) c.in_ok-put_key.ensures.ok)
