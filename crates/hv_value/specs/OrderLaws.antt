-- The laws of orders: each is total, and lists of cells that tie are equal.
use Rattle.std.proofs.Common.{◌≡◌, refl, sym, List, [], ◌∷◌, Bool, true, false}
use Rattle.std.specs.Prelude.{if◌then◌else◌}
use Rattle.std.specs.Cmp.{IsTotalOrder, back_total, on_total, then_total}
use Rattle.std.specs.Cmp.Lexicographic.{lists_total}
use Rattle.std.specs.FinMap.{IsAntisymmetric, slice_cmp-IsAntisymmetric}
use Rattle.std.specs.Ordering.{on, ordering_reverse, then_cmp}
use Rattle.std.specs.declared.cmp.Ordering.{Ordering}
use Rattle.std.specs.declared.cmp.Ordering.TheVariants.{Less, Equal, Greater}
use Rattle.hv_value.specs.declared.cell.Cell.{Cell}
use Rattle.hv_value.specs.declared.orders.OrderKey.{OrderKey}
use Rattle.hv_value.specs.CellOrder.{cells_same, cells_total, then_first, then_second}
use Rattle.hv_value.specs.Order.{compare_cells}
use Rattle.hv_value.specs.Orders.{compare_by, compare_keys, first_then_rest}

by_total : (key : OrderKey) → IsTotalOrder (compare_by key)
by_total key = by key.down
  where
    by : (b : Bool) → IsTotalOrder (λ (x : Cell) y. if b then compare_cells y x else compare_cells x y)
    by true = back_total cells_total
    by false = cells_total

by_same : (key : OrderKey) → IsAntisymmetric (compare_by key)
by_same key x y = by key.down
  where
    by : (b : Bool) → (if b then compare_cells y x else compare_cells x y) ≡ Equal → x ≡ y
    by true e = sym (cells_same y x e)
    by false e = cells_same x y e

module _ {X : Type 0} (first : X → X → Ordering) (rest : List X → List X → Ordering) where
  -- the first elements and the rest, of lists that aren't empty
  abbrev pairs : X × List X → X × List X → Ordering
  pairs = then_cmp (on (λ p. p.0) first) (on (λ p. p.1) rest)

  module _ (one : IsTotalOrder first) (more : IsTotalOrder rest) where
    both : IsTotalOrder pairs
    both = then_total (on_total (λ (p : X × List X). p.0) one) (on_total (λ (p : X × List X). p.1) more)

    back : (xs ys : List X) → first_then_rest first rest xs ys ≡ ordering_reverse (first_then_rest first rest ys xs)
    back [] [] = refl
    back [] (y ∷ ys) = refl
    back (x ∷ xs) [] = refl
    back (x ∷ xs) (y ∷ ys) = both.antisymm (x, xs) (y, ys)

    chain : (xs ys zs : List X) → first_then_rest first rest xs ys ≡ Less → first_then_rest first rest ys zs ≡ Less → first_then_rest first rest xs zs ≡ Less
    chain [] [] zs e f = f
    chain [] (y ∷ ys) [] e f = cc
    chain [] (y ∷ ys) (z ∷ zs) e f = refl
    chain (x ∷ xs) [] zs e f = cc
    chain (x ∷ xs) (y ∷ ys) [] e f = f
    chain (x ∷ xs) (y ∷ ys) (z ∷ zs) e f = both.trans (x, xs) (y, ys) (z, zs) e f

    alike : (xs ys zs : List X) → first_then_rest first rest xs ys ≡ Equal → first_then_rest first rest xs zs ≡ first_then_rest first rest ys zs
    alike [] [] zs e = refl
    alike [] (y ∷ ys) zs e = cc
    alike (x ∷ xs) [] zs e = cc
    alike (x ∷ xs) (y ∷ ys) [] e = refl
    alike (x ∷ xs) (y ∷ ys) (z ∷ zs) e = both.congr (x, xs) (y, ys) (z, zs) e

    first_then_rest_total : IsTotalOrder (first_then_rest first rest)
    first_then_rest_total = record { antisymm = back; trans = chain; congr = alike }

  first_then_rest_same : IsAntisymmetric first → IsAntisymmetric rest → IsAntisymmetric (first_then_rest first rest)
  first_then_rest_same one more [] [] e = refl
  first_then_rest_same one more [] (y ∷ ys) e = cc
  first_then_rest_same one more (x ∷ xs) [] e = cc
  first_then_rest_same one more (x ∷ xs) (y ∷ ys) e =
      let head = one x y (then_first (first x y) (rest xs ys) e) in
      let tail = more xs ys (then_second (first x y) (rest xs ys) e) in
      cc

-- each order is total
pub keys_total : (keys : List OrderKey) → IsTotalOrder (compare_keys keys)
keys_total [] = lists_total cells_total
keys_total (key ∷ keys) = first_then_rest_total (compare_by key) (compare_keys keys) (by_total key) (keys_total keys)

-- lists of cells that tie are equal
pub keys_same : (keys : List OrderKey) → IsAntisymmetric (compare_keys keys)
keys_same [] = slice_cmp-IsAntisymmetric cells_same
keys_same (key ∷ keys) = first_then_rest_same (compare_by key) (compare_keys keys) (by_same key) (keys_same keys)
