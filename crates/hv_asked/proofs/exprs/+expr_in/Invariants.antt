use Rattle.std.proofs.Common.{◌+◌, ◌*◌}
use Rattle.hv_asked.proofs.exprs.+expr_in.Given as goal

abbrev pub decreases-expr_in : goal.decreases-expr_in
decreases-expr_in l = 4 * l.levels

abbrev pub decreases-expr_with : goal.decreases-expr_with
decreases-expr_with l = 4 * l.levels + 3

abbrev pub decreases-linear_in : goal.decreases-linear_in
decreases-linear_in l = 4 * l.levels + 2

abbrev pub decreases-join_in : goal.decreases-join_in
decreases-join_in l = 4 * l.levels + 2

abbrev pub decreases-operand_in : goal.decreases-operand_in
decreases-operand_in l = 4 * l.levels + 1
