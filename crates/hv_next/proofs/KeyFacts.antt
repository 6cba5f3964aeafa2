-- How two lists of cells compare from a place on.
use Rattle.std.proofs.Common.{◌≡◌, ◌<◌, ◌≤◌, ◌+◌, ℕ, zero, suc, List, [], ◌∷◌, Bool, true, false, refl, sym, ap, ◌∙◌, length, min, nat_lt, drop, get_or, add-one, arith}
use Rattle.std.proofs.lemmas.Bool.{ltb-false, ltb-true, true≢false}
use Rattle.std.proofs.lemmas.Bool.Decides.{nat_tests}
use Rattle.std.proofs.lemmas.List.{length-drop, nil_from_length}
use Rattle.std.specs.Cmp.Lexicographic.{slice_cmp}
use Rattle.std.specs.Ordering.{is_ne, nat_cmp, ordering_then}
use Rattle.std.specs.declared.cmp.Ordering.{Ordering}
use Rattle.std.specs.declared.cmp.Ordering.TheVariants.{Less, Equal, Greater}
use Rattle.hv_value.specs.declared.cell.Cell.{Cell}
use Rattle.hv_value.specs.declared.orders.OrderKey.{OrderKey}
use Rattle.hv_value.specs.Order.{compare_cells}
use Rattle.hv_value.specs.Orders.{compare_by, compare_keys, key_of}
use Rattle.hv_value.specs.Rows.{Row}
use Rattle.hv_next.specs.KeyPlaces.{compare_at}
use Rattle.hv_next.specs.Next.{compare_rows, one_row}
use Rattle.hv_next.specs.declared.summary.NextRow.{NextRow}

-- a row's key compares with one of a list as with that one's cells
pub as_cells : (keys : List OrderKey) (found : Row) (kept listed : NextRow) (cells : List Cell) (o : Ordering) → kept ≡ listed → cells ≡ listed.key
    → o ≡ compare_keys keys (key_of keys found) cells → compare_rows keys (one_row keys found) kept ≡ o
as_cells keys found kept listed cells o is of e = ap (compare_rows keys (one_row keys found)) is ∙ ap (compare_keys keys (key_of keys found)) (sym of) ∙ sym e

-- past the last key cells compare as cells
pub at_none : (keys : List OrderKey) (place : ℕ) (x y : Cell) → length keys ≤ place → compare_at keys place x y ≡ compare_cells x y
at_none [] place x y past = refl
at_none (key ∷ keys) zero x y past = absurd (omega (arith, past))
at_none (key ∷ keys) (suc place) x y past = at_none keys place x y (omega (arith, past))

-- and else by the key there
pub at_key : (keys : List OrderKey) (place : ℕ) (key : OrderKey) (x y : Cell) → place < length keys
    → compare_at keys place x y ≡ compare_by (get_or keys place key) x y
at_key [] place key x y there = absurd (omega (arith, there))
at_key (first ∷ keys) zero key x y there = refl
at_key (first ∷ keys) (suc place) key x y there = at_key keys place key x y (omega (arith, there))

-- an order that tells two apart decides, and one that doesn't leaves it to the rest
told_apart : (o rest : Ordering) → is_ne o ≡ true → ordering_then o rest ≡ o
told_apart Less rest e = refl
told_apart Equal rest e = absurd (true≢false (sym e))
told_apart Greater rest e = refl

tied : (o rest : Ordering) → is_ne o ≡ false → ordering_then o rest ≡ rest
tied Less rest e = absurd (true≢false e)
tied Equal rest e = refl
tied Greater rest e = absurd (true≢false e)

-- two lists from a place on: by the cells there, and then by the rest
cells-from : (place : ℕ) (xs ys : List Cell) (x y : Cell) → place < length xs → place < length ys
    → slice_cmp compare_cells (drop place xs) (drop place ys)
    ≡ ordering_then (compare_cells (get_or xs place x) (get_or ys place y)) (slice_cmp compare_cells (drop (suc place) xs) (drop (suc place) ys))
cells-from place [] ys x y left right = absurd (omega (arith, left))
cells-from place (a ∷ xs) [] x y left right = absurd (omega (arith, right))
cells-from zero (a ∷ xs) (b ∷ ys) x y left right = refl
cells-from (suc place) (a ∷ xs) (b ∷ ys) x y left right = cells-from place xs ys x y (omega (arith, left)) (omega (arith, right))

from-place : (place : ℕ) (keys : List OrderKey) (xs ys : List Cell) (x y : Cell) → place < length xs → place < length ys
    → compare_keys (drop place keys) (drop place xs) (drop place ys)
    ≡ ordering_then (compare_at keys place (get_or xs place x) (get_or ys place y)) (compare_keys (drop (suc place) keys) (drop (suc place) xs) (drop (suc place) ys))
from-place place keys [] ys x y left right = absurd (omega (arith, left))
from-place place keys (a ∷ xs) [] x y left right = absurd (omega (arith, right))
from-place zero [] (a ∷ xs) (b ∷ ys) x y left right = refl
from-place zero (key ∷ keys) (a ∷ xs) (b ∷ ys) x y left right = refl
from-place (suc place) [] (a ∷ xs) (b ∷ ys) x y left right = cells-from place xs ys x y (omega (arith, left)) (omega (arith, right))
from-place (suc place) (key ∷ keys) (a ∷ xs) (b ∷ ys) x y left right = from-place place keys xs ys x y (omega (arith, left)) (omega (arith, right))

module _ (keys : List OrderKey) (xs ys : List Cell) (place : ℕ) (x y : Cell) (left : place < length xs) (right : place < length ys) where
  -- where the cells at a place differ, they decide
  pub apart : (o : Ordering) → o ≡ compare_at keys place (get_or xs place x) (get_or ys place y) → is_ne o ≡ true
      → o ≡ compare_keys (drop place keys) (drop place xs) (drop place ys)
  apart o is e = sym (from-place place keys xs ys x y left right ∙ rw (← is) (told_apart o _ e))

  -- and else the rest
  pub level : (o : Ordering) → o ≡ compare_at keys place (get_or xs place x) (get_or ys place y) → is_ne o ≡ false
      → compare_keys (drop (place + 1) keys) (drop (place + 1) xs) (drop (place + 1) ys) ≡ compare_keys (drop place keys) (drop place xs) (drop place ys)
  level o is e = rw add-one (sym (from-place place keys xs ys x y left right ∙ rw (← is) (tied o _ e)))

-- a list that ends is the lesser, where the other goes on
end-left : (keys : List OrderKey) (ys : List Cell) (m n : ℕ) → m + length ys ≡ n → nat_cmp m n ≡ compare_keys keys [] ys
end-left [] [] m n e = grind (arith, nat_tests)
end-left [] (y ∷ ys) m n e = grind (arith, nat_tests)
end-left (key ∷ keys) [] m n e = grind (arith, nat_tests)
end-left (key ∷ keys) (y ∷ ys) m n e = grind (arith, nat_tests)

end-right : (keys : List OrderKey) (xs : List Cell) (m n : ℕ) → n + length xs ≡ m → nat_cmp m n ≡ compare_keys keys xs []
end-right [] [] m n e = grind (arith, nat_tests)
end-right [] (x ∷ xs) m n e = grind (arith, nat_tests)
end-right (key ∷ keys) [] m n e = grind (arith, nat_tests)
end-right (key ∷ keys) (x ∷ xs) m n e = grind (arith, nat_tests)

-- where one list ends, the shorter is the lesser
pub at_end : (place : ℕ) (keys : List OrderKey) (xs ys : List Cell) → place ≤ length xs → place ≤ length ys → min (length xs) (length ys) ≤ place
    → nat_cmp (length xs) (length ys) ≡ compare_keys (drop place keys) (drop place xs) (drop place ys)
at_end place keys xs ys left right ends = by (nat_lt (length xs) (length ys)) refl
  where
    by : (b : Bool) → nat_lt (length xs) (length ys) ≡ b
        → nat_cmp (length xs) (length ys) ≡ compare_keys (drop place keys) (drop place xs) (drop place ys)
    by true e =
        let shorter : length xs < length ys = ltb-true (length xs) (length ys) e in
        let none : drop place xs ≡ [] = nil_from_length (drop place xs) (omega (arith, length-drop place xs)) in
        rw none (end-left (drop place keys) (drop place ys) (length xs) (length ys) (omega (arith, length-drop place ys)))
    by false e =
        let longer : length ys ≤ length xs = ltb-false (length xs) (length ys) e in
        let none : drop place ys ≡ [] = nil_from_length (drop place ys) (omega (arith, length-drop place ys)) in
        rw none (end-right (drop place keys) (drop place xs) (length xs) (length ys) (omega (arith, length-drop place xs)))
