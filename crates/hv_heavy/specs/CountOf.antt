-- How many cells of a column are each of some values: this project's own rule.
use Rattle.std.specs.Prelude.{◌+◌, ℕ, suc, List, [], ◌∷◌, length, map, get_or, count_by, if◌then◌else◌, Bool, true, false, Option, Some, None}
use Rattle.std.specs.List.{list_all}
use Rattle.hv_value.specs.declared.cell.Cell.{Cell}
use Rattle.hv_value.specs.declared.cell.Cell.TheVariants as cell
use Rattle.hv_value.specs.declared.cell.Kind.{Kind}
use Rattle.hv_value.specs.declared.cell.Kind.TheVariants as kind
use Rattle.hv_value.specs.Cells.{cell_at}
use Rattle.hv_value.specs.Rows.{Row}
use Rattle.hv_value.specs.Schema.{Columns}
use Rattle.hv_sketch.specs.ColumnCells.{cells_in, is_missing}
use Rattle.hv_sketch.specs.Columns.{kind_at}
use Rattle.hv_sketch.specs.Tally.{IsTally}
use Rattle.hv_heavy.specs.Heavy.{count_of, is_same, values_of}
use Rattle.hv_heavy.specs.declared.count_of.CountShown.{CountShown}

-- whether a cell is a value of the kind: a missing one is of none
abbrev pub is_value_of : Kind → Cell → Bool
is_value_of kind.Int (cell.Int n) = true
is_value_of kind.Date (cell.Date day) = true
is_value_of kind.Text (cell.Text text) = true
is_value_of k c = false

-- whether there is a kind, of which each cell is a value
abbrev pub are_values_of : Option Kind → List Cell → Bool
are_values_of None values = false
are_values_of (Some k) values = list_all (is_value_of k) values

-- whether the column is there, and each of the values is one of its kind
abbrev pub fits_count : Columns → ℕ → List Cell → Bool
fits_count columns col values = are_values_of (kind_at columns col) values

-- how many of the column's cells are each value, in the values' order, how many are missing, and how many aren't
abbrev pub counts_of : ℕ → List Cell → List Row → CountShown
counts_of col values rows =
    record {
      counts = map (count_of (cells_in col rows)) values;
      missing = count_by is_missing (cells_in col rows);
      n = length (values_of (cells_in col rows));
    }

-- ---- the slots of a count: one for each value, then one for cells that are none of them, and one for missing ones

-- the place of the first of some values that a cell is, their number where it is none of them
abbrev pub first_place : List Cell → Cell → ℕ
first_place [] c = 0
first_place (value ∷ values) c = if is_same value c then 0 else suc (first_place values c)

-- the slot of a cell: of equal values the first one's
abbrev pub slot_of : List Cell → Cell → ℕ
slot_of values cell.Missing = length values + 1
slot_of values c = first_place values c

-- the count of a value among counts by slot: that of its slot, and none of a missing one
abbrev pub value_count : List Cell → List ℕ → Cell → ℕ
value_count values counts value = if is_missing value then 0 else get_or counts (first_place values value) 0

-- the slot of a row
abbrev pub slot_in : ℕ → List Cell → Row → ℕ
slot_in col values row = slot_of values (cell_at row.cells col)

-- the counts are those of at most 2^42 rows by slot
abbrev pub IsCount : ℕ → List Cell → List Row → List ℕ → Type 0
IsCount col values rows counts = IsTally (length values + 2) (slot_in col values) rows counts
