use Rattle.std.proofs.Common.{◌<◌, [], arith}
use Rattle.hv_find.proofs.tests.of_both.Goals as goal

-- the summary stands for the rows of the lower partition
pub add_part-requires-2-clause-lower : goal.add_part-requires-2-clause-lower
add_part-requires-2-clause-lower c =
    let lower : c.args.low.now.part < c.args.high.now.part = omega (arith, c.requires.low, c.requires.high) in (
      _,
      c.in_ok-add_part.ensures.ok [] c.in_ok-acc.ensures (record { lower = tt; few = omega arith }),
      record { lower = (lower, (lower, tt)); few = omega (arith, c.requires.high) },
    )
