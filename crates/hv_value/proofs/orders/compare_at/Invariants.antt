use Rattle.std.proofs.Common.{◌≡◌, drop, Some}
use Rattle.hv_value.specs.Orders.{compare_keys, key_of}
use Rattle.hv_value.specs.Rows.{Row}
use Rattle.hv_value.specs.Table.{row_from}
use Rattle.hv_value.proofs.orders.compare_at.Given as goal

-- what is left of the keys and of both lists decides
abbrev pub invariant-loop-place : goal.invariant-loop-place
invariant-loop-place g l = (found : Row) → row_from l.row (g.T.Table.rows l.table) ≡ Some found
    → compare_keys (drop l.place l.keys) (drop l.place (key_of l.keys found)) (drop l.place l.cells) ≡ compare_keys l.keys (key_of l.keys found) l.cells
