-- Columns as views ask for them: a place and the kind that must stand there.
use Rattle.std.specs.Prelude.{◌≡◌, ℕ, true, Option, Some, option_map, slice_get}
use Rattle.hv_value.specs.declared.cell.Cell.{Cell}
use Rattle.hv_value.specs.declared.cell.Kind.{Kind}
use Rattle.hv_value.specs.Cells.{is_of_kind}
use Rattle.hv_value.specs.Schema.{Columns}

-- the kind of the column at a place, none past the end
abbrev pub kind_at : Columns → ℕ → Option Kind
kind_at columns place = option_map (λ column. column.1) (slice_get columns place)

-- the columns have one of the kind at the place
abbrev pub IsColumnOf : Columns → ℕ → Kind → Type 0
IsColumnOf columns place kind = kind_at columns place ≡ Some kind

-- the columns have one at the place, of a kind that is taken
abbrev pub TakesColumn : (Kind → Type 0) → Columns → ℕ → Type 0
TakesColumn takes columns place = (kind : Kind) × IsColumnOf columns place kind × takes kind

-- the cell is missing or of a kind that is taken
abbrev pub TakesCell : (Kind → Type 0) → Cell → Type 0
TakesCell takes c = (kind : Kind) × takes kind × (is_of_kind kind c ≡ true)
