use Rattle.hv_sketch.specs.TallyLaws.{IsTally-sum, sum-fits}
use Rattle.hv_heavy.proofs.count_of.CountOfVizketch.merge_into.Goals as goal

pub add-requires-clause-fits : goal.add-requires-clause-fits
add-requires-clause-fits c = λ s within.
    sum-fits _ _ c.requires.0 c.requires.1 c.args.acc.now c.args.d.now s c.requires.2 c.requires.3 within

pub returns-clause-ok : goal.returns-clause-ok
returns-clause-ok c = λ a b left right merge. rw c.add.ensures (IsTally-sum _ _ a b c.args.acc.now c.args.d.now left right merge)
