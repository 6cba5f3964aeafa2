-- Orders of rows that a message asks for, and a key in them: what is asked for, its limits, and what it means over columns.
use Rattle.std.specs.Prelude.{ℕ, List, [], ◌∷◌, length, Bool, true, ◌&&◌, nat_eq, nat_le, if◌then◌else◌, Option, Some, None, option_map, option_and_then, Result, Ok, Err, codes}
use Rattle.std.specs.List.{list_all}
use Rattle.serde_json.specs.Data.{Data}
use Rattle.serde_json.specs.Find.{get, as_str, as_array}
use Rattle.hv_value.specs.declared.cell.Cell.{Cell}
use Rattle.hv_value.specs.declared.cell.Kind.{Kind}
use Rattle.hv_value.specs.declared.orders.OrderKey.{OrderKey}
use Rattle.hv_value.specs.declared.orders.TheConstants.{MAX_KEYS}
use Rattle.hv_value.specs.Schema.{Columns}
use Rattle.hv_sketch.specs.Columns.{kind_at}
use Rattle.hv_next.specs.Fits.{are_of_keys}
use Rattle.hv_asked.specs.declared.asked.CellAsked.{CellAsked}
use Rattle.hv_asked.specs.declared.orders.KeyAsked.{KeyAsked}
use Rattle.hv_asked.specs.declared.orders.OrderAsked.{OrderAsked}
use Rattle.hv_asked.specs.declared.why.Why.{Why}
use Rattle.hv_asked.specs.declared.why.Why.TheVariants as why
use Rattle.hv_asked.specs.Axes.{column_named}
use Rattle.hv_asked.specs.Constants.{cell_beside, cell_in, fits_cell}
use Rattle.hv_asked.specs.Fields.{all_read, list_at, pair_in}
use Rattle.hv_asked.specs.Flaws.{all_meant, and_then, map_ok}
use Rattle.hv_asked.specs.Words.{down_named}

-- ---- what is asked for

-- a key: a list of just a column's name and one of the words `up` and `down`
abbrev pub key_from : Data × Data → Option KeyAsked
key_from pair = option_and_then (λ col. option_map (λ down. record { col = col; down = down }) (option_and_then down_named (as_str pair.1))) (as_str pair.0)

-- a key, where a value is one
abbrev pub key_in : Data → Option KeyAsked
key_in value = option_and_then key_from (pair_in value)

-- the keys of the order under `order`, the first first
abbrev pub keys_in : Data → Option (List KeyAsked)
keys_in value = option_and_then (all_read key_in) (list_at (codes "order") value)

-- so many cells
abbrev pub of_length : ℕ → List CellAsked → Option (List CellAsked)
of_length many cells = if nat_eq (length cells) many then Some cells else None

-- so many cells of a list, where a value is one
abbrev pub cells_in : ℕ → Data → Option (List CellAsked)
cells_in many value = option_and_then (of_length many) (option_and_then (all_read cell_in) (as_array value))

-- the key above which rows are: absent, or a list of one cell for each key of the order
abbrev pub after_in : ℕ → Option Data → Option (Option (List CellAsked))
after_in many None = Some None
after_in many (Some value) = option_map Some (cells_in many value)

-- the order with these keys, and the key under `after`
abbrev pub order_with : Data → List KeyAsked → Option OrderAsked
order_with value keys = option_map (λ after. record { keys = keys; after = after }) (after_in (length keys) (get (codes "after") value))

-- the order under `order`, and the key under `after`
abbrev pub order_in : Data → Option OrderAsked
order_in value = option_and_then (order_with value) (keys_in value)

-- the order under `order` alone: a key beside it isn't read
abbrev pub order_alone_in : Data → Option OrderAsked
order_alone_in value = option_map (λ keys. record { keys = keys; after = None }) (keys_in value)

-- ---- its limits: 1 to 8 keys, and those of its constants

-- whether the cells of a key, where there is one, are within their limits
abbrev pub fits_after : Option (List CellAsked) → Bool
fits_after None = true
fits_after (Some cells) = list_all fits_cell cells

-- whether it has 1 to 8 keys, and the key in it is within its limits
abbrev pub fits_order : OrderAsked → Bool
fits_order order = nat_le 1 (length order.keys) && nat_le (length order.keys) MAX_KEYS && fits_after order.after

-- ---- what it means

-- a key over columns, where there is one of its name
abbrev pub key_named : Columns → KeyAsked → Result OrderKey Why
key_named columns key = map_ok (λ (column : ℕ × Kind). record { col = column.0; down = key.down }) (column_named columns key.col)

-- a cell beside the column of a key
unfoldable pub beside : Columns → OrderKey → CellAsked → Cell
beside columns key cell = cell_beside (kind_at columns key.col) cell

-- cells beside the columns of keys, in turn
abbrev pub beside_keys : Columns → List OrderKey → List CellAsked → List Cell
beside_keys columns [] cells = []
beside_keys columns (key ∷ keys) [] = []
beside_keys columns (key ∷ keys) (cell ∷ cells) = beside columns key cell ∷ beside_keys columns keys cells

-- a key of an order: each of its cells is missing or of the kind of its column
abbrev pub key_fits : Columns → List OrderKey → List Cell → Result (Option (List Cell)) Why
key_fits columns keys cells = if are_of_keys columns keys cells then Ok (Some cells) else Err why.Kind

-- the key in an order over columns, where there is one
abbrev pub after_over : Columns → List OrderKey → Option (List CellAsked) → Result (Option (List Cell)) Why
after_over columns keys None = Ok None
after_over columns keys (Some cells) = key_fits columns keys (beside_keys columns keys cells)

-- the order over columns, and the key in it: all columns are looked up before the cells
abbrev pub order_over : Columns → OrderAsked → Result (List OrderKey × Option (List Cell)) Why
order_over columns asked = and_then (λ keys. map_ok (λ after. (keys, after)) (after_over columns keys asked.after)) (all_meant (key_named columns) asked.keys)
