-- Cells that a message gives as constants. Whether a text is a date is known only beside a column, so it is read as a text first.
use Rattle.std.specs.Prelude.{ℕ, ◌-◌, ◌^◌, ℤ, pos, negsuc, int_le, List, length, Bool, true, ◌&&◌, nat_le, Option, Some, None, option_map, option_and_then}
use Rattle.serde_json.specs.Data.{Data, null, boolean, number, string, array, object}
use Rattle.serde_json.specs.Find.{as_integer, get}
use Rattle.hv_value.specs.Days.{day_of_text}
use Rattle.hv_value.specs.declared.cell.Cell.{Cell}
use Rattle.hv_value.specs.declared.cell.Cell.TheVariants as cell
use Rattle.hv_value.specs.declared.cell.Kind.{Kind}
use Rattle.hv_value.specs.declared.cell.Kind.TheVariants as kind
use Rattle.hv_asked.specs.declared.asked.CellAsked.{CellAsked}
use Rattle.hv_asked.specs.declared.asked.CellAsked.TheVariants.{Missing, Number, Text}
use Rattle.hv_asked.specs.declared.limits.TheConstants.{MAX_CONSTANT_BYTES}

-- whether a text has at most 1,024 bytes
abbrev pub is_short : List ℕ → Bool
is_short text = nat_le (length text) MAX_CONSTANT_BYTES

-- ---- what is asked for: null, a whole number of at most 64 bits or a text

abbrev pub cell_in : Data → Option CellAsked
cell_in null = Some Missing
cell_in (boolean _) = None
cell_in (number n) = option_map Number (as_integer n)
cell_in (string text) = Some (Text text)
cell_in (array _) = None
cell_in (object _) = None

-- the constant under a key
abbrev pub cell_at : List ℕ → Data → Option CellAsked
cell_at key value = option_and_then cell_in (get key value)

-- ---- its limits: a number of an i64, a text of at most 1,024 bytes

abbrev pub fits_cell : CellAsked → Bool
fits_cell Missing = true
fits_cell (Number n) = int_le (negsuc (2 ^ 63 - 1)) n && int_le n (pos (2 ^ 63 - 1))
fits_cell (Text text) = is_short text

-- ---- what it means beside a column of a kind, none where there is no such column

-- the day that a text names, or the text where it names none
abbrev pub day_or_text : List ℕ → Option ℤ → Cell
day_or_text text None = cell.Text text
day_or_text text (Some day) = cell.Date day

-- a text that names a day is that day beside a column of dates
abbrev pub text_beside : Option Kind → List ℕ → Cell
text_beside (Some kind.Date) text = day_or_text text (day_of_text text)
text_beside _ text = cell.Text text

abbrev pub cell_beside : Option Kind → CellAsked → Cell
cell_beside k Missing = cell.Missing
cell_beside k (Number n) = cell.Int n
cell_beside k (Text text) = text_beside k text
