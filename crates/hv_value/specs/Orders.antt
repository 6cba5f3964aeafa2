-- Orders of rows by several columns: how two keys compare, a key being the row's cells of those columns.
use Rattle.std.specs.Prelude.{ℕ, ◌<◌, List, [], ◌∷◌, length, map, if◌then◌else◌}
use Rattle.std.specs.declared.cmp.Ordering.{Ordering}
use Rattle.std.specs.declared.cmp.Ordering.TheVariants.{Less, Equal, Greater}
use Rattle.std.specs.Cmp.Lexicographic.{slice_cmp}
use Rattle.std.specs.List.{All}
use Rattle.std.specs.Ordering.{ordering_then}
use Rattle.hv_value.specs.declared.cell.Cell.{Cell}
use Rattle.hv_value.specs.declared.orders.OrderKey.{OrderKey}
use Rattle.hv_value.specs.Cells.{cell_at}
use Rattle.hv_value.specs.Order.{compare_cells}
use Rattle.hv_value.specs.Rows.{Row}
use Rattle.hv_value.specs.Schema.{Columns}

-- how two cells of one column compare: the other way round where the order goes down
abbrev pub compare_by : OrderKey → Cell → Cell → Ordering
compare_by key x y = if key.down then compare_cells y x else compare_cells x y

-- lists compare by their first elements and then by the rest; an empty list is the least
abbrev pub first_then_rest : {X : Type 0} → (X → X → Ordering) → (List X → List X → Ordering) → List X → List X → Ordering
first_then_rest first rest [] [] = Equal
first_then_rest first rest [] (y ∷ ys) = Less
first_then_rest first rest (x ∷ xs) [] = Greater
first_then_rest first rest (x ∷ xs) (y ∷ ys) = ordering_then (first x y) (rest xs ys)

-- how two lists of cells compare: key by key, and what is past the last key cell by cell
abbrev pub compare_keys : List OrderKey → List Cell → List Cell → Ordering
compare_keys [] = slice_cmp compare_cells
compare_keys (key ∷ keys) = first_then_rest (compare_by key) (compare_keys keys)

-- the cells of a row by which it orders
abbrev pub key_of : List OrderKey → Row → List Cell
key_of keys row = map (λ key. cell_at row.cells key.col) keys

-- each key's column is one of the columns
abbrev pub AreInColumns : Columns → List OrderKey → Type 0
AreInColumns columns keys = All (λ key. key.col < length columns) keys
