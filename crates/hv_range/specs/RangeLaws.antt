-- The range adds up over joined lists of rows, in any order.
use Rattle.std.specs.Prelude.{ℕ, ℤ, pos, ◌+ℤ◌, List, [], ◌∷◌, ◌++◌, ◌≡◌, map, fold, refl}
use Rattle.std.proofs.Common.{ap, sym, subst, ◌∙◌, arith}
use Rattle.std.proofs.lemmas.Int.{ints}
use Rattle.std.proofs.lemmas.List.{length-append, map-append}
use Rattle.std.proofs.lemmas.List.Sums.{fold-append, sum_by-append}
use Rattle.hv_value.specs.declared.cell.Cell.{Cell}
use Rattle.hv_value.specs.declared.cell.Cell.TheVariants as cell
use Rattle.hv_value.specs.declared.cell.Kind.{Kind}
use Rattle.hv_value.specs.Rows.{Row}
use Rattle.hv_sketch.proofs.ColumnFacts.{cells-append, cells-three}
use Rattle.hv_sketch.proofs.Swaps.{all-swap, sum-swap}
use Rattle.hv_sketch.specs.ColumnCells.{cells_in}
use Rattle.hv_range.specs.CellLaws.{greater-missing, greater-regroup, greater-turn, lesser-missing, lesser-regroup, lesser-turn}
use Rattle.hv_range.specs.Cells.{number_of}
use Rattle.hv_range.specs.Extremes.{greater, lesser}
use Rattle.hv_range.specs.Range.{range_of, range_of_cells}
use Rattle.hv_range.specs.RangeSums.{IsRangeCell, range_sum}
use Rattle.hv_range.specs.IsRange.{IsCellRange, IsRange}
use Rattle.hv_range.specs.declared.summary.RangeSummary.{RangeSummary}

module _ {X : Type 0} (op : X → X → X) (none : X) (regroup : (x y z : X) → op (op x y) z ≡ op x (op y z)) (neutral : (x : X) → op x none ≡ x) where
  -- a fold from an operand's result is the operand with the fold
  fold-op : (m n : X) (ns : List X) → fold op (op m n) ns ≡ op m (fold op n ns)
  fold-op m n [] = refl
  fold-op m n (k ∷ ns) = ap (λ x. fold op x ns) (regroup m n k) ∙ fold-op m (op n k) ns

  -- a fold from nothing over joined lists is that of the two folds
  pub fold-joined : (ms ns : List X) → fold op none (ms ++ ns) ≡ op (fold op none ms) (fold op none ns)
  fold-joined ms ns =
      fold-append op none ms ns ∙ ap (λ x. fold op x ns) (sym (neutral (fold op none ms)))
      ∙ fold-op (fold op none ms) none ns

add-regroup : (x y z : ℤ) → (x +ℤ y) +ℤ z ≡ x +ℤ (y +ℤ z)
add-regroup x y z = omega (arith, ints)

add-turn : (x y : ℤ) → x +ℤ y ≡ y +ℤ x
add-turn x y = omega (arith, ints)

add-zero_ℤ : (x : ℤ) → x +ℤ pos 0 ≡ x
add-zero_ℤ x = omega (arith, ints)

-- the sum of joined lists is the sum of the sums
pub sum-append : (ms ns : List ℤ) → fold ◌+ℤ◌ (pos 0) (ms ++ ns) ≡ fold ◌+ℤ◌ (pos 0) ms +ℤ fold ◌+ℤ◌ (pos 0) ns
sum-append = fold-joined ◌+ℤ◌ (pos 0) add-regroup add-zero_ℤ

-- a range by its parts
abbrev range : ℕ → ℕ → Cell → Cell → ℤ → RangeSummary
range count missing least greatest sum = record { count = count; missing = missing; least = least; greatest = greatest; sum = sum }

-- ranges with equal parts are equal
pub range-same : (c c2 m m2 : ℕ) (l l2 g g2 : Cell) (s s2 : ℤ) → c ≡ c2 → m ≡ m2 → l ≡ l2 → g ≡ g2 → s ≡ s2
    → range c m l g s ≡ range c2 m2 l2 g2 s2
range-same c c2 m m2 l l2 g g2 s s2 count missing least greatest sum =
    ap (λ x. range x m l g s) count ∙ ap (λ x. range c2 x l g s) missing ∙ ap (λ x. range c2 m2 x g s) least
    ∙ ap (λ x. range c2 m2 l2 x s) greatest ∙ ap (λ x. range c2 m2 l2 g2 x) sum

-- the range of joined lists of cells is the sum of the ranges
pub cells_range-append : (cs ds : List Cell) → range_of_cells (cs ++ ds) ≡ range_sum (range_of_cells cs) (range_of_cells ds)
cells_range-append cs ds =
    range-same _ _ _ _ _ _ _ _ _ _
    (sum_by-append _ cs ds)
    (sum_by-append _ cs ds)
    (fold-joined lesser cell.Missing lesser-regroup lesser-missing cs ds)
    (fold-joined greater cell.Missing greater-regroup greater-missing cs ds)
    (ap (fold ◌+ℤ◌ (pos 0)) (map-append number_of cs ds) ∙ sum-append (map number_of cs) (map number_of ds))

-- and that of joined lists of rows
pub range-append : (col : ℕ) (a b : List Row) → range_of col (a ++ b) ≡ range_sum (range_of col a) (range_of col b)
range-append col a b = ap range_of_cells (cells-append col a b) ∙ cells_range-append (cells_in col a) (cells_in col b)

pub range_sum-regroup : (x y z : RangeSummary) → range_sum (range_sum x y) z ≡ range_sum x (range_sum y z)
range_sum-regroup x y z =
    range-same _ _ _ _ _ _ _ _ _ _ (omega arith) (omega arith)
    (lesser-regroup x.least y.least z.least) (greater-regroup x.greatest y.greatest z.greatest) (add-regroup x.sum y.sum z.sum)

pub range_sum-turn : (x y : RangeSummary) → range_sum x y ≡ range_sum y x
range_sum-turn x y =
    range-same _ _ _ _ _ _ _ _ _ _ (omega arith) (omega arith)
    (lesser-turn x.least y.least) (greater-turn x.greatest y.greatest) (add-turn x.sum y.sum)

-- two blocks of cells at the end may change places
IsCellRange-swap : (kind : Kind) (a b c : List Cell) (s : RangeSummary) → IsCellRange kind (a ++ b ++ c) s → IsCellRange kind (a ++ c ++ b) s
IsCellRange-swap kind a b c s h =
    record {
      few = simp length-append (omega (arith, simp length-append at h.few));
      fit = all-swap (IsRangeCell kind) a b c h.fit;
      is = h.is ∙ sum-swap range_of_cells range_sum range_sum-regroup range_sum-turn cells_range-append a b c;
    }

-- and so may two blocks of rows
pub IsRange-swap : (kind : Kind) (col : ℕ) (a b c : List Row) (s : RangeSummary) → IsRange kind col (a ++ b ++ c) s → IsRange kind col (a ++ c ++ b) s
IsRange-swap kind col a b c s h =
    subst (λ cells. IsCellRange kind cells s) (sym (cells-three col a c b))
    (IsCellRange-swap kind (cells_in col a) (cells_in col b) (cells_in col c) s
    (subst (λ cells. IsCellRange kind cells s) (cells-three col a b c) h))
