-- How two lists of cells compare place by place.
use Rattle.std.specs.Prelude.{ℕ, zero, suc, List, [], ◌∷◌}
use Rattle.std.specs.declared.cmp.Ordering.{Ordering}
use Rattle.hv_value.specs.declared.cell.Cell.{Cell}
use Rattle.hv_value.specs.declared.orders.OrderKey.{OrderKey}
use Rattle.hv_value.specs.Order.{compare_cells}
use Rattle.hv_value.specs.Orders.{compare_by}

-- how two cells compare by the key at a place, or as cells past the last key
abbrev pub compare_at : List OrderKey → ℕ → Cell → Cell → Ordering
compare_at [] place x y = compare_cells x y
compare_at (key ∷ keys) zero x y = compare_by key x y
compare_at (key ∷ keys) (suc place) x y = compare_at keys place x y
