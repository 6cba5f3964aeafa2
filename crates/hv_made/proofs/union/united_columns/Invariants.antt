use Rattle.std.proofs.Common.{map, take}
use Rattle.std.specs.Arc.{arc_value}
use Rattle.hv_made.specs.Steps.{AreUnited}
use Rattle.hv_made.proofs.union.united_columns.Given as goal

abbrev pub invariant-loop-j : goal.invariant-loop-j
invariant-loop-j l =
    AreUnited (take l.j l.left.cols) (take l.j l.right.cols) l.left.member.rows l.alone.rows l.left.member.size (map arc_value l.united.items)
