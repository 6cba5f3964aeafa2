use Rattle.std.proofs.Common.{◌≡◌, ◌+◌, ◌*◌, get_or, map}
use Rattle.std.specs.List.{range_with_len}
use Rattle.hv_grid.proofs.shown.grid_of.Given as goal

-- the rows so far
abbrev pub invariant-loop-row : goal.invariant-loop-row
invariant-loop-row l = l.made ≡ map (λ a. map (λ b. get_or l.counts (a * l.width + b) 0) (range_with_len 0 l.columns)) (range_with_len 0 l.row)
