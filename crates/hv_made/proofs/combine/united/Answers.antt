use Rattle.hv_made.proofs.CombineSteps.{same-columns}
use Rattle.hv_made.proofs.combine.united.Goals as goal

-- both have the same columns
pub united_columns-requires-clause-columns : goal.united_columns-requires-clause-columns
united_columns-requires-clause-columns c = same-columns c.args.left.columns c.args.right.columns c.requires.fit
