-- What a field of bytes reads as in a column of texts.
use Rattle.std.proofs.Common.{◌≡◌, ℕ, List, Bool, true, false, IsUtf8, refl, ap}
use Rattle.std.proofs.lemmas.Str.{IsUtf8-from_is_utf8, is_utf8-from_IsUtf8}
use Rattle.std.specs.Prelude.{if◌then◌else◌}
use Rattle.std.specs.Str.{is_utf8}
use Rattle.hv_value.specs.declared.cell.Cell.TheVariants as cell
use Rattle.hv_value.specs.declared.cell.Kind.TheVariants as kind
use Rattle.hv_value.specs.Rows.{cell_of_field}

-- a field that is UTF-8 is a text
pub valid-text : (field text : List ℕ) → text ≡ field → IsUtf8 field → cell.Text text ≡ cell_of_field kind.Text field
valid-text field text same valid = rw (is_utf8-from_IsUtf8 field valid) (ap (λ (bytes : List ℕ). cell.Text bytes) same)

-- any other is missing
pub invalid-text : (field : List ℕ) → (IsUtf8 field → ⊥) → cell.Missing ≡ cell_of_field kind.Text field
invalid-text field invalid = by (is_utf8 field) refl
  where
    by : (b : Bool) → is_utf8 field ≡ b → cell.Missing ≡ (if b then cell.Text field else cell.Missing)
    by true e = absurd (invalid (IsUtf8-from_is_utf8 field e))
    by false e = refl
