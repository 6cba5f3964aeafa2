use Rattle.std.proofs.Common.{◌≡◌, ◌++◌, take, drop}
use Rattle.csv.specs.Records.{fields_of}
use Rattle.hv_csv.specs.Fill.{with_row}
use Rattle.hv_csv.proofs.fill.push_row.Given as goal

-- the columns before have their cells, and the others are as they were
abbrev pub invariant-loop-j : goal.invariant-loop-j
invariant-loop-j l = l.cols ≡ with_row (take l.j l.places) (fields_of l.row) (take l.j l.initial.cols) ++ drop l.j l.initial.cols
