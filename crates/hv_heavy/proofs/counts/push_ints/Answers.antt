use Rattle.std.specs.Ordering.{int_eq}
use Rattle.hv_value.specs.declared.cell.Cell.TheVariants as cell
use Rattle.hv_heavy.proofs.CountFacts.{once-of, tied-ints}
use Rattle.hv_heavy.proofs.counts.push_ints.Goals as goal

-- no two keys of a map are equal
pub returns-clause-once : goal.returns-clause-once
returns-clause-once c = once-of cell.Int int_eq tied-ints c.args.counts.entries c.into_iter-n-iterator.ensures.into_iter_gives.4
