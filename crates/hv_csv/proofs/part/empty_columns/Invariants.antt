use Rattle.std.proofs.Common.{◌≡◌, map, take}
use Rattle.hv_csv.specs.Fill.{empty_column}
use Rattle.hv_csv.proofs.part.empty_columns.Given as goal

-- the columns before are there
abbrev pub invariant-loop-j : goal.invariant-loop-j
invariant-loop-j l = l.cols.items ≡ map empty_column (take l.j l.schema)
