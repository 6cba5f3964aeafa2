-- The lesser and the greater of two cells, where a missing one gives way to any other: this project's own rule.
use Rattle.std.specs.Prelude.{if◌then◌else◌}
use Rattle.std.specs.declared.cmp.Ordering.{Ordering}
use Rattle.std.specs.Ordering.{bool_cmp, flip_args, is_lt, on, then_cmp}
use Rattle.hv_value.specs.declared.cell.Cell.{Cell}
use Rattle.hv_value.specs.Order.{compare_cells}
use Rattle.hv_sketch.specs.ColumnCells.{is_missing}

-- the order of cells, but with a missing one behind all others
abbrev pub missing_last : Cell → Cell → Ordering
missing_last = then_cmp (on is_missing bool_cmp) compare_cells

-- of two cells the second where it comes before the first in an order, else the first
abbrev pub earlier : (Cell → Cell → Ordering) → Cell → Cell → Cell
earlier cmp x y = if is_lt (cmp y x) then y else x

abbrev pub lesser : Cell → Cell → Cell
lesser = earlier missing_last

abbrev pub greater : Cell → Cell → Cell
greater = earlier (flip_args compare_cells)
