-- Values that a message gives to be counted: what is asked for, their limits, and what they mean beside a column.
use Rattle.std.specs.Prelude.{List, length, Bool, true, false, ◌&&◌, nat_le, if◌then◌else◌, Option, Some, option_and_then, Result, Ok, Err, ℕ}
use Rattle.std.specs.List.{list_all}
use Rattle.serde_json.specs.Data.{Data}
use Rattle.hv_value.specs.declared.cell.Cell.{Cell}
use Rattle.hv_value.specs.declared.cell.Cell.TheVariants as cell
use Rattle.hv_value.specs.declared.cell.Kind.{Kind}
use Rattle.hv_value.specs.declared.cell.Kind.TheVariants as kind
use Rattle.hv_asked.specs.declared.asked.CellAsked.{CellAsked}
use Rattle.hv_asked.specs.declared.limits.TheConstants.{MAX_COUNTED}
use Rattle.hv_asked.specs.declared.why.Why.{Why}
use Rattle.hv_asked.specs.declared.why.Why.TheVariants as why
use Rattle.hv_asked.specs.Constants.{cell_beside, cell_in, fits_cell}
use Rattle.hv_asked.specs.Fields.{all_read, list_at}

-- the cells of the list under a key
abbrev pub values_at : List ℕ → Data → Option (List CellAsked)
values_at key value = option_and_then (all_read cell_in) (list_at key value)

-- whether there are at most 1,000 of them, each within the limits of constants
abbrev pub fit_values : List CellAsked → Bool
fit_values cells = nat_le (length cells) MAX_COUNTED && list_all fits_cell cells

-- whether a cell is a value of the kind: a missing one is of none
abbrev pub is_value_of : Kind → Cell → Bool
is_value_of kind.Int (cell.Int n) = true
is_value_of kind.Date (cell.Date day) = true
is_value_of kind.Text (cell.Text text) = true
is_value_of k c = false

abbrev pub value_of : Kind → Cell → Result Cell Why
value_of k c = if is_value_of k c then Ok c else Err why.Kind

-- a value beside a column of a kind
abbrev pub value_beside : Kind → CellAsked → Result Cell Why
value_beside k asked = value_of k (cell_beside (Some k) asked)
