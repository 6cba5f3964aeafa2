use Rattle.std.proofs.Common.{◌≡◌, ◌<◌, ℕ, true, length, leb}
use Rattle.std.specs.List.{filter}
use Rattle.hv_value.specs.Cells.{cell_at}
use Rattle.hv_member.specs.Sets.{is_in}
use Rattle.hv_made.proofs.union.agree.Given as goal

abbrev pub invariant-loop-row : goal.invariant-loop-row
invariant-loop-row l = (n : ℕ) → n < l.from → is_in n l.rows.rows ≡ true → cell_at l.left.cells n ≡ cell_at l.right.cells n

abbrev pub decreases-loop-row : goal.decreases-loop-row
decreases-loop-row l = length (filter (leb l.from) l.rows.rows)
