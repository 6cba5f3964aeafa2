use Rattle.std.proofs.Common.{◌≡◌, ◌+◌, ◌*◌, get_or, map}
use Rattle.std.specs.List.{range_with_len}
use Rattle.hv_grid.proofs.shown.row_counts.Given as goal

-- the counts of the columns so far
abbrev pub invariant-loop-column : goal.invariant-loop-column
invariant-loop-column l = l.made ≡ map (λ b. get_or l.counts (l.row * l.width + b) 0) (range_with_len 0 l.column)
