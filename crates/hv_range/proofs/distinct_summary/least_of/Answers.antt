use Rattle.std.proofs.Common.{rules}
use Rattle.hv_range.proofs.DistinctFacts.{first_of-cut}
use Rattle.hv_range.proofs.distinct_summary.least_of.Goals as goal

pub returns : goal.returns
returns c = first_of-cut c.args.k _ c.in_ok-values.values _ c.in_ok-values.ensures c.truncate.ensures (search rules)
