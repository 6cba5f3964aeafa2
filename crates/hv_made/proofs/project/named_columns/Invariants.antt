use Rattle.std.proofs.Common.{◌≡◌, map, take}
use Rattle.std.specs.Arc.{arc_value}
use Rattle.hv_made.specs.Steps.{picked_cols}
use Rattle.hv_made.proofs.project.named_columns.Given as goal

abbrev pub invariant-loop-name : goal.invariant-loop-name
invariant-loop-name l = map arc_value l.picked.items ≡ picked_cols l.schema (map arc_value l.cols) (take l.name-index l.names)
