use Rattle.std.proofs.Common.{map, take}
use Rattle.std.specs.Arc.{arc_value}
use Rattle.std.specs.List.{AllByRecursion}
use Rattle.hv_column.specs.Column.{AreCells}
use Rattle.hv_part.proofs.part_table.look_at.Given as goal

abbrev pub invariant-loop-column : goal.invariant-loop-column
invariant-loop-column l = AllByRecursion AreCells (map arc_value (take l.column-index l.cols))
