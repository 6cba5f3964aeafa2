-- When next rows may be taken of a table: its columns, and the key above which they are.
use Rattle.std.specs.Prelude.{◌≡◌, List, [], ◌∷◌, Bool, true, false, ◌&&◌, Option, Some, None, ⊤}
use Rattle.hv_value.specs.declared.cell.Cell.{Cell}
use Rattle.hv_value.specs.declared.cell.Kind.{Kind}
use Rattle.hv_value.specs.declared.orders.OrderKey.{OrderKey}
use Rattle.hv_value.specs.Cells.{is_of_kind}
use Rattle.hv_value.specs.Orders.{AreInColumns}
use Rattle.hv_value.specs.Schema.{Columns}
use Rattle.hv_sketch.specs.Columns.{kind_at}

-- whether a cell may stand in a column of the kind, where there is such a column
abbrev pub is_of_column : Option Kind → Cell → Bool
is_of_column None cell = false
is_of_column (Some kind) cell = is_of_kind kind cell

-- whether cells are one for each key, each missing or of the kind of the key's column
abbrev pub are_of_keys : Columns → List OrderKey → List Cell → Bool
are_of_keys columns [] [] = true
are_of_keys columns [] (cell ∷ cells) = false
are_of_keys columns (key ∷ keys) [] = false
are_of_keys columns (key ∷ keys) (cell ∷ cells) = is_of_column (kind_at columns key.col) cell && are_of_keys columns keys cells

-- where there is a key above which the rows are, its cells are such
abbrev pub IsKeyOf : Columns → List OrderKey → Option (List Cell) → Type 0
IsKeyOf columns keys None = ⊤
IsKeyOf columns keys (Some cells) = are_of_keys columns keys cells ≡ true

-- each key's column is there, and the key above which the rows are is one of theirs
pub record FitsNext (keys : List OrderKey) (after : Option (List Cell)) (columns : Columns) : Type 0 where
  pub cols : AreInColumns columns keys
  pub after_fits : IsKeyOf columns keys after
