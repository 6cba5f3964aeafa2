-- The distinct values of joined lists of cells and of rows, in any order.
use Rattle.std.proofs.Common.{◌≡◌, ℕ, List, ◌++◌, refl, sym, ap, ◌∙◌}
use Rattle.std.specs.Prelude.{not}
use Rattle.std.proofs.lemmas.List.Elements.{filter-append}
use Rattle.hv_value.specs.declared.cell.Cell.{Cell}
use Rattle.hv_value.specs.Order.{compare_cells}
use Rattle.hv_value.specs.Rows.{Row}
use Rattle.hv_sketch.proofs.ColumnFacts.{cells-three}
use Rattle.hv_sketch.proofs.Least.{rising-swap}
use Rattle.hv_sketch.specs.ColumnCells.{cells_in, is_missing}
use Rattle.hv_sketch.specs.Rising.{JoinsTies, rising}
use Rattle.hv_value.specs.CellOrder.{cells_same, cells_total}
use Rattle.hv_range.specs.Cells.{values_of}
use Rattle.hv_range.specs.Distinct.{distinct_of, distinct_of_cells, first_of, kept}

-- equal cells are one
pub kept_joins : JoinsTies compare_cells kept
kept_joins =
    record {
      same = λ x y z e. ap (λ c. compare_cells c z) (sym (cells_same x y e));
      turn = λ x y e. sym (cells_same x y e);
      regroup = λ x y z e f. refl;
    }

-- the values of joined lists are the joined values
pub values-append : (a b : List Cell) → values_of (a ++ b) ≡ values_of a ++ values_of b
values-append a b = filter-append (λ c. not (is_missing c)) a b

values-three : (a b c : List Cell) → values_of (a ++ b ++ c) ≡ values_of a ++ values_of b ++ values_of c
values-three a b c = values-append (a ++ b) c ∙ ap (λ l. l ++ values_of c) (values-append a b)

-- two blocks of cells at the end may change places
distinct-swap : (k : ℕ) (a b c : List Cell) → distinct_of_cells k (a ++ b ++ c) ≡ distinct_of_cells k (a ++ c ++ b)
distinct-swap k a b c =
    ap (first_of k)
    (ap (rising compare_cells kept) (values-three a b c)
    ∙ rising-swap compare_cells kept cells_total kept_joins (values_of a) (values_of b) (values_of c)
    ∙ ap (rising compare_cells kept) (sym (values-three a c b)))

-- and so may two blocks of rows
pub distinct_of-swap : (col k : ℕ) (a b c : List Row) → distinct_of col k (a ++ b ++ c) ≡ distinct_of col k (a ++ c ++ b)
distinct_of-swap col k a b c =
    ap (distinct_of_cells k) (cells-three col a b c)
    ∙ distinct-swap k (cells_in col a) (cells_in col b) (cells_in col c)
    ∙ ap (distinct_of_cells k) (sym (cells-three col a c b))
