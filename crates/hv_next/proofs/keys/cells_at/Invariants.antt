use Rattle.std.proofs.Common.{◌≡◌, take, Some}
use Rattle.hv_value.specs.Orders.{key_of}
use Rattle.hv_value.specs.Rows.{Row}
use Rattle.hv_value.specs.Table.{row_from}
use Rattle.hv_next.proofs.keys.cells_at.Given as goal

-- the cells of the keys so far have been copied
abbrev pub invariant-loop-key : goal.invariant-loop-key
invariant-loop-key g l = (found : Row) → row_from l.row (g.T.Table.rows l.table) ≡ Some found → l.cells ≡ key_of (take l.key-index l.keys) found
