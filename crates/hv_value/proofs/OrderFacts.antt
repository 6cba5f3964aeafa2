-- How the keys of two rows compare from a place on.
use Rattle.std.proofs.Common.{◌≡◌, ◌<◌, ◌+◌, ℕ, List, Bool, true, false, refl, sym, ◌∙◌, length, drop, get_or, add-one, arith, drop-cons}
use Rattle.std.proofs.lemmas.Bool.{true≢false}
use Rattle.std.proofs.lemmas.List.{get_or-map, length-map}
use Rattle.std.specs.Ordering.{is_ne, ordering_then}
use Rattle.std.specs.declared.cmp.Ordering.{Ordering}
use Rattle.std.specs.declared.cmp.Ordering.TheVariants.{Less, Equal, Greater}
use Rattle.hv_value.specs.declared.cell.Cell.{Cell}
use Rattle.hv_value.specs.declared.orders.OrderKey.{OrderKey}
use Rattle.hv_value.specs.Cells.{cell_at}
use Rattle.hv_value.specs.Orders.{compare_by, compare_keys, key_of}
use Rattle.hv_value.specs.Rows.{Row}

-- an order that tells two apart decides, and one that doesn't leaves it to the next
told_apart : (o rest : Ordering) → is_ne o ≡ true → ordering_then o rest ≡ o
told_apart Less rest e = refl
told_apart Equal rest e = absurd (true≢false (sym e))
told_apart Greater rest e = refl

tied : (o rest : Ordering) → is_ne o ≡ false → ordering_then o rest ≡ rest
tied Less rest e = absurd (true≢false e)
tied Equal rest e = refl
tied Greater rest e = absurd (true≢false e)

module _ (keys : List OrderKey) (xs ys : List Cell) (place : ℕ) (key : OrderKey) (x y : Cell)
    (there : place < length keys) (left : length xs ≡ length keys) (right : length ys ≡ length keys) where
  compare-from : compare_keys (drop place keys) (drop place xs) (drop place ys)
      ≡ ordering_then (compare_by (get_or keys place key) (get_or xs place x) (get_or ys place y))
      (compare_keys (drop (place + 1) keys) (drop (place + 1) xs) (drop (place + 1) ys))
  compare-from =
      let in_left : place < length xs = omega arith in
      let in_right : place < length ys = omega arith in
      rw (add-one, drop-cons keys place key, drop-cons xs place x, drop-cons ys place y) refl

  -- where the place tells the lists apart, that is how they compare from there on
  pub compare-apart : (o : Ordering) → o ≡ compare_by (get_or keys place key) (get_or xs place x) (get_or ys place y) → is_ne o ≡ true
      → o ≡ compare_keys (drop place keys) (drop place xs) (drop place ys)
  compare-apart o is apart = sym (compare-from ∙ rw (← is) (told_apart o _ apart))

  -- and else the rest decides
  pub compare-tied : (o : Ordering) → o ≡ compare_by (get_or keys place key) (get_or xs place x) (get_or ys place y) → is_ne o ≡ false
      → compare_keys (drop (place + 1) keys) (drop (place + 1) xs) (drop (place + 1) ys) ≡ compare_keys (drop place keys) (drop place xs) (drop place ys)
  compare-tied o is tie = sym (compare-from ∙ rw (← is) (tied o _ tie))

-- the same of a row's cells in place
module _ (keys : List OrderKey) (cells : List Cell) (found : Row) (place : ℕ) (key : OrderKey) (other : Cell)
    (there : place < length keys) (right : length cells ≡ length keys) where
  in_row : cell_at found.cells (get_or keys place key).col ≡ get_or (key_of keys found) place other
  in_row = sym (get_or-map (λ (k : OrderKey). cell_at found.cells k.col) keys place key other there)

  module _ (o : Ordering) (x y : Cell) (is : o ≡ compare_by (get_or keys place key) x y)
      (first : x ≡ cell_at found.cells (get_or keys place key).col) (second : y ≡ get_or cells place other) where
    compared : o ≡ compare_by (get_or keys place key) (get_or (key_of keys found) place other) (get_or cells place other)
    compared = is ∙ (λ i. compare_by (get_or keys place key) ((first ∙ in_row) i) (second i))

    pub row-apart : is_ne o ≡ true → o ≡ compare_keys (drop place keys) (drop place (key_of keys found)) (drop place cells)
    row-apart apart =
        compare-apart keys (key_of keys found) cells place key other other there (length-map keys _) right o compared apart

    pub row-tied : is_ne o ≡ false
        → compare_keys (drop (place + 1) keys) (drop (place + 1) (key_of keys found)) (drop (place + 1) cells)
        ≡ compare_keys (drop place keys) (drop place (key_of keys found)) (drop place cells)
    row-tied tie =
        compare-tied keys (key_of keys found) cells place key other other there (length-map keys _) right o compared tie
