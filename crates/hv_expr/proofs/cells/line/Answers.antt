use Rattle.std.proofs.Math.Facts.{to_z-of_z}
use Rattle.hv_expr.proofs.LinearLemmas.{line-computed, line-fits}
use Rattle.hv_expr.proofs.cells.line.Goals as goal

pub overflow_add-result : goal.overflow_add-result
overflow_add-result c =
    rw (line-computed c.args.a c.args.b c.args.x c.from.result c.requires.a c.ranges.a c.ranges.b c.ranges.x c.from.ensures)
    (line-fits c.args.a c.args.b c.args.x c.requires.a c.requires.b c.ranges.x)

pub returns : goal.returns
returns c =
    rw (line-computed c.args.a c.args.b c.args.x c.from.result c.requires.a c.ranges.a c.ranges.b c.ranges.x c.from.ensures)
    (to_z-of_z (line-fits c.args.a c.args.b c.args.x c.requires.a c.requires.b c.ranges.x))
