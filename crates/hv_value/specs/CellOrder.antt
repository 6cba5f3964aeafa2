-- The laws of the order of cells: it is total, cells that tie are equal, and two of one kind compare as numbers or as bytes.
use Rattle.std.proofs.Common.{◌≡◌, refl, sym, ap, arith}
use Rattle.std.specs.Prelude.{ℕ, ℤ, List}
use Rattle.std.specs.Cmp.{IsTotalOrder, nat_cmp_total, int_cmp_total, on_total, then_total}
use Rattle.std.specs.Cmp.Lexicographic.{nat_list_cmp_total, slice_cmp}
use Rattle.std.specs.FinMap.{IsAntisymmetric, nat_cmp-IsAntisymmetric, int_cmp-IsAntisymmetric, slice_cmp-IsAntisymmetric}
use Rattle.std.specs.Ordering.{int_cmp, nat_cmp, ordering_then}
use Rattle.std.specs.declared.cmp.Ordering.{Ordering}
use Rattle.std.specs.declared.cmp.Ordering.TheVariants.{Less, Equal, Greater}
use Rattle.hv_value.specs.declared.cell.Cell.{Cell}
use Rattle.hv_value.specs.declared.cell.Cell.TheVariants as cell
use Rattle.hv_value.specs.Order.{compare_cells, order_bytes, order_number, variant_place}

-- what a comparison by two orders in turn says of each, where it tells nothing apart
pub then_first : (r s : Ordering) → ordering_then r s ≡ Equal → r ≡ Equal
then_first Less s e = cc e
then_first Equal s e = refl
then_first Greater s e = cc e

pub then_second : (r s : Ordering) → ordering_then r s ≡ Equal → s ≡ Equal
then_second Less s e = cc e
then_second Equal s e = e
then_second Greater s e = cc e

then_nothing : (o : Ordering) → o ≡ ordering_then o Equal
then_nothing Less = refl
then_nothing Equal = refl
then_nothing Greater = refl

-- a cell is told by its variant, its number and its bytes
same_parts : (x y : Cell) → variant_place x ≡ variant_place y → order_number x ≡ order_number y → order_bytes x ≡ order_bytes y → x ≡ y
same_parts cell.Missing cell.Missing place number bytes = refl
same_parts cell.Missing (cell.Int n) place number bytes = absurd (omega (arith, place))
same_parts cell.Missing (cell.Date n) place number bytes = absurd (omega (arith, place))
same_parts cell.Missing (cell.Text t) place number bytes = absurd (omega (arith, place))
same_parts (cell.Int m) cell.Missing place number bytes = absurd (omega (arith, place))
same_parts (cell.Int m) (cell.Int n) place number bytes = ap cell.Int number
same_parts (cell.Int m) (cell.Date n) place number bytes = absurd (omega (arith, place))
same_parts (cell.Int m) (cell.Text t) place number bytes = absurd (omega (arith, place))
same_parts (cell.Date m) cell.Missing place number bytes = absurd (omega (arith, place))
same_parts (cell.Date m) (cell.Int n) place number bytes = absurd (omega (arith, place))
same_parts (cell.Date m) (cell.Date n) place number bytes = ap cell.Date number
same_parts (cell.Date m) (cell.Text t) place number bytes = absurd (omega (arith, place))
same_parts (cell.Text s) cell.Missing place number bytes = absurd (omega (arith, place))
same_parts (cell.Text s) (cell.Int n) place number bytes = absurd (omega (arith, place))
same_parts (cell.Text s) (cell.Date n) place number bytes = absurd (omega (arith, place))
same_parts (cell.Text s) (cell.Text t) place number bytes = ap cell.Text bytes

pub cells_total : IsTotalOrder compare_cells
unfolding compare_cells
cells_total =
    then_total (on_total variant_place nat_cmp_total)
    (then_total (on_total order_number int_cmp_total) (on_total order_bytes nat_list_cmp_total))

-- cells that tie are equal
pub cells_same : IsAntisymmetric compare_cells
unfolding compare_cells
cells_same x y e =
    let rest = then_second _ _ e in
    same_parts x y (nat_cmp-IsAntisymmetric _ _ (then_first _ _ e)) (int_cmp-IsAntisymmetric _ _ (then_first _ _ rest))
    (slice_cmp-IsAntisymmetric nat_cmp-IsAntisymmetric _ _ (then_second _ _ rest))

-- whole numbers, and days, compare as numbers, and texts as their bytes
pub compare-ints : (m n : ℤ) → compare_cells (cell.Int m) (cell.Int n) ≡ int_cmp m n
unfolding compare_cells
compare-ints m n = sym (then_nothing (int_cmp m n))

pub compare-days : (m n : ℤ) → compare_cells (cell.Date m) (cell.Date n) ≡ int_cmp m n
unfolding compare_cells
compare-days m n = sym (then_nothing (int_cmp m n))

pub compare-texts : (s t : List ℕ) → compare_cells (cell.Text s) (cell.Text t) ≡ slice_cmp nat_cmp s t
unfolding compare_cells
compare-texts s t = refl
