use Rattle.std.proofs.Common.{◌≡◌, ◌+◌, ◌*◌, get_or, map}
use Rattle.std.specs.List.{range_with_len}
use Rattle.hv_grid.proofs.shown.column_counts.Given as goal

-- the counts of the rows so far
abbrev pub invariant-loop-row : goal.invariant-loop-row
invariant-loop-row l = l.made ≡ map (λ a. get_or l.counts (a * l.width + l.column) 0) (range_with_len 0 l.row)
