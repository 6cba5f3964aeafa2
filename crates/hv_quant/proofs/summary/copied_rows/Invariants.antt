use Rattle.std.proofs.Common.{◌≡◌, take}
use Rattle.hv_quant.proofs.summary.copied_rows.Given as goal

-- the rows so far have been copied
abbrev pub invariant-loop-row : goal.invariant-loop-row
invariant-loop-row l = l.copy.items ≡ take l.row-index l.rows
