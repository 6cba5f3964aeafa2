use Rattle.std.proofs.Common.{◌≡◌, take}
use Rattle.hv_expr.proofs.same.+same.Given as goal

abbrev pub invariant-are_all_same-loop-i : goal.invariant-are_all_same-loop-i
invariant-are_all_same-loop-i l = take l.i l.xs ≡ take l.i l.ys
