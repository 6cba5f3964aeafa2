-- Cells as a key of an order, key by key.
use Rattle.std.proofs.Common.{◌≡◌, ◌≢◌, ◌<◌, ◌+◌, ℕ, List, [], ◌∷◌, Bool, true, false, Option, Some, refl, sym, subst, ◌∙◌, length, drop, get_or, add-one, arith, drop-cons}
use Rattle.std.specs.Prelude.{◌&&◌}
use Rattle.std.specs.Cmp.{second_so}
use Rattle.std.proofs.lemmas.Bool.{true≢false}
use Rattle.hv_value.specs.declared.cell.Cell.{Cell}
use Rattle.hv_value.specs.declared.orders.OrderKey.{OrderKey}
use Rattle.hv_value.specs.Schema.{Columns}
use Rattle.hv_sketch.specs.Columns.{kind_at}
use Rattle.hv_next.specs.Fits.{FitsNext, IsKeyOf, are_of_keys, is_of_column}

-- such cells are as many as the keys
pub as_many : (columns : Columns) (keys : List OrderKey) (cells : List Cell) → are_of_keys columns keys cells ≡ true → length cells ≡ length keys
as_many columns [] [] e = refl
as_many columns [] (cell ∷ cells) e = absurd (true≢false (sym e))
as_many columns (key ∷ keys) [] e = absurd (true≢false (sym e))
as_many columns (key ∷ keys) (cell ∷ cells) e =
    omega (arith, as_many columns keys cells (second_so (is_of_column (kind_at columns key.col) cell) (are_of_keys columns keys cells) e))

pub after_length : (columns : Columns) (keys : List OrderKey) (after : Option (List Cell)) (cells : List Cell) → after ≡ Some cells
    → FitsNext keys after columns → length cells ≡ length keys
after_length columns keys after cells is h = as_many columns keys cells (subst (IsKeyOf columns keys) is h.after_fits)

-- and else they are none
pub other_many : (columns : Columns) (keys : List OrderKey) (cells : List Cell) → (length keys ≢ length cells) → false ≡ are_of_keys columns keys cells
other_many columns keys cells differ = by (are_of_keys columns keys cells) refl
  where
    by : (b : Bool) → are_of_keys columns keys cells ≡ b → false ≡ are_of_keys columns keys cells
    by true e = absurd (differ (sym (as_many columns keys cells e)))
    by false e = sym e

and-false : (a b : Bool) → a ≡ false → false ≡ (a && b)
and-false true b e = absurd (true≢false e)
and-false false b e = refl

and-true : (a b : Bool) → a ≡ true → b ≡ (a && b)
and-true true b e = refl
and-true false b e = absurd (true≢false (sym e))

module _ (columns : Columns) (keys : List OrderKey) (cells : List Cell) (place : ℕ) (key : OrderKey) (cell : Cell)
    (left : place < length keys) (right : place < length cells) where
  keys-from : are_of_keys columns (drop place keys) (drop place cells)
      ≡ (is_of_column (kind_at columns (get_or keys place key).col) (get_or cells place cell) && are_of_keys columns (drop (place + 1) keys) (drop (place + 1) cells))
  keys-from = rw (add-one, drop-cons keys place key, drop-cons cells place cell) refl

  -- a cell that isn't of its key's column
  pub key-fails : is_of_column (kind_at columns (get_or keys place key).col) (get_or cells place cell) ≡ false → false ≡ are_of_keys columns (drop place keys) (drop place cells)
  key-fails e = and-false _ _ e ∙ sym keys-from

  -- and one that is
  pub key-passes : is_of_column (kind_at columns (get_or keys place key).col) (get_or cells place cell) ≡ true
      → are_of_keys columns (drop (place + 1) keys) (drop (place + 1) cells) ≡ are_of_keys columns (drop place keys) (drop place cells)
  key-passes e = and-true _ _ e ∙ sym keys-from
