use Rattle.std.proofs.Common.{◌≡◌, drop}
use Rattle.hv_next.specs.Fits.{are_of_keys}
use Rattle.hv_next.proofs.keys.are_cells_of.Given as goal

-- what is left of the keys and of the cells decides
abbrev pub invariant-loop-place : goal.invariant-loop-place
invariant-loop-place l = are_of_keys l.schema (drop l.place l.keys) (drop l.place l.cells) ≡ are_of_keys l.schema l.keys l.cells
