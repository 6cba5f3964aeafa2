-- The places of some values among themselves, as maps by kind keep them.
use Rattle.std.specs.Prelude.{◌≡◌, ℕ, suc, ℤ, List, [], ◌∷◌, Option, Some, None, option_map, if◌then◌else◌}
use Rattle.std.specs.HashMap.{get, get_by_text}
use Rattle.std.specs.Ordering.{int_eq}
use Rattle.hv_value.specs.declared.cell.Cell.{Cell}
use Rattle.hv_value.specs.declared.cell.Cell.TheVariants as cell
use Rattle.hv_heavy.specs.Heavy.{is_same}
use Rattle.hv_heavy.specs.declared.places.PlaceMaps.{PlaceMaps}

-- the place of the first of some values that a cell is, where it is one of them
abbrev pub place_among : List Cell → Cell → Option ℕ
place_among [] c = None
place_among (value ∷ values) c = if is_same value c then Some 0 else option_map suc (place_among values c)

-- the maps have the places of the values of their kinds, and of no others
pub record AreMapped (values : List Cell) (maps : PlaceMaps) : Type 0 where
  pub ints : (n : ℤ) → get int_eq maps.ints n ≡ place_among values (cell.Int n)
  pub days : (day : ℤ) → get int_eq maps.days day ≡ place_among values (cell.Date day)
  pub texts : (text : List ℕ) → get_by_text maps.texts text ≡ place_among values (cell.Text text)
