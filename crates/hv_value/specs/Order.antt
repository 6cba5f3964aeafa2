-- The order of cells: this project's own rule.
use Rattle.std.specs.Prelude.{ℕ, ℤ, pos, List, []}
use Rattle.std.specs.declared.cmp.Ordering.{Ordering}
use Rattle.std.specs.Ordering.{int_cmp, nat_cmp, on, then_cmp}
use Rattle.std.specs.Cmp.Lexicographic.{slice_cmp}
use Rattle.hv_value.specs.declared.cell.Cell.{Cell}
use Rattle.hv_value.specs.declared.cell.Cell.TheVariants as cell

-- the place of a cell's variant among those of `Cell`
abbrev pub variant_place : Cell → ℕ
variant_place cell.Missing = 0
variant_place (cell.Int n) = 1
variant_place (cell.Date day) = 2
variant_place (cell.Text text) = 3

-- the number by which a cell orders among those of its variant, 0 where it has none
abbrev pub order_number : Cell → ℤ
order_number cell.Missing = pos 0
order_number (cell.Int n) = n
order_number (cell.Date day) = day
order_number (cell.Text text) = pos 0

-- the bytes by which a cell orders among those of its variant, empty where it has none
abbrev pub order_bytes : Cell → List ℕ
order_bytes cell.Missing = []
order_bytes (cell.Int n) = []
order_bytes (cell.Date day) = []
order_bytes (cell.Text text) = text

-- cells order by their variants' places, then by number, then by bytes; so missing is the least
unfoldable pub compare_cells : Cell → Cell → Ordering
compare_cells = then_cmp (on variant_place nat_cmp) (then_cmp (on order_number int_cmp) (on order_bytes (slice_cmp nat_cmp)))
