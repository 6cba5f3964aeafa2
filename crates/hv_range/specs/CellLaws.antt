-- The laws of the lesser and the greater of two cells.
use Rattle.std.proofs.Common.{◌≡◌, refl, sym, ap, ◌∙◌}
use Rattle.std.proofs.lemmas.Bool.{true≢false}
use Rattle.std.specs.Prelude.{Bool, true, false, if◌then◌else◌}
use Rattle.std.specs.Cmp.{IsTotalOrder, bool_cmp_total, on_total, then_total, back_total}
use Rattle.std.specs.FinMap.{IsAntisymmetric}
use Rattle.std.specs.Ordering.{flip_args, is_gt, is_lt, ordering_reverse}
use Rattle.std.specs.declared.cmp.Ordering.{Ordering}
use Rattle.std.specs.declared.cmp.Ordering.TheVariants.{Less, Equal, Greater}
use Rattle.std.proofs.lemmas.Cmp.{tied_itself, upto}
use Rattle.hv_value.specs.declared.cell.Cell.{Cell}
use Rattle.hv_value.specs.declared.cell.Cell.TheVariants as cell
use Rattle.hv_value.specs.CellOrder.{cells_same, cells_total, then_second}
use Rattle.hv_value.specs.Order.{compare_cells}
use Rattle.hv_sketch.specs.ColumnCells.{is_missing}
use Rattle.hv_range.specs.Extremes.{earlier, greater, lesser, missing_last}

pub missing_last_total : IsTotalOrder missing_last
missing_last_total = then_total (on_total is_missing bool_cmp_total) cells_total

pub missing_last_same : IsAntisymmetric missing_last
missing_last_same x y e = cells_same x y (then_second _ _ e)

-- a comparison from the other side
back-less : (o : Ordering) → is_lt o ≡ is_gt (ordering_reverse o)
back-less Less = refl
back-less Equal = refl
back-less Greater = refl

pub is-less : (o : Ordering) → is_lt o ≡ true → o ≡ Less
is-less Less e = refl
is-less Equal e = absurd (true≢false (sym e))
is-less Greater e = absurd (true≢false (sym e))

level : (o : Ordering) → is_lt o ≡ false → is_gt o ≡ false → o ≡ Equal
level Less low high = absurd (true≢false low)
level Equal low high = refl
level Greater low high = absurd (true≢false high)

module _ (cmp : Cell → Cell → Ordering) (order : IsTotalOrder cmp) (same : IsAntisymmetric cmp) where
  back : (x y : Cell) → is_lt (cmp x y) ≡ is_gt (cmp y x)
  back x y = back-less (cmp x y) ∙ ap is_gt (sym (order.antisymm y x))

  is-second : (x y : Cell) → is_lt (cmp y x) ≡ true → earlier cmp x y ≡ y
  is-second x y e = rw e refl

  is-first : (x y : Cell) → is_lt (cmp y x) ≡ false → earlier cmp x y ≡ x
  is-first x y e = rw e refl

  not-less : (o : Ordering) → o ≡ Greater → is_lt o ≡ false
  not-less o e = rw e refl

  pub earlier-turn : (x y : Cell) → earlier cmp x y ≡ earlier cmp y x
  earlier-turn x y = by (is_lt (cmp y x)) refl (is_lt (cmp x y)) refl
    where
      by : (s : Bool) → is_lt (cmp y x) ≡ s → (t : Bool) → is_lt (cmp x y) ≡ t → earlier cmp x y ≡ earlier cmp y x
      by true p true q =
          absurd (true≢false (sym q ∙ not-less (cmp x y) (order.antisymm x y ∙ ap ordering_reverse (is-less (cmp y x) p))))
      by true p false q = is-second x y p ∙ sym (is-first y x q)
      by false p true q = is-first x y p ∙ sym (is-second y x q)
      by false p false q =
          is-first x y p ∙ same x y (level (cmp x y) q (sym (back y x) ∙ p)) ∙ sym (is-first y x q)

  pub earlier-regroup : (x y z : Cell) → earlier cmp (earlier cmp x y) z ≡ earlier cmp x (earlier cmp y z)
  earlier-regroup x y z = by (is_lt (cmp y x)) refl (is_lt (cmp z y)) refl
    where
      by : (s : Bool) → is_lt (cmp y x) ≡ s → (t : Bool) → is_lt (cmp z y) ≡ t
          → earlier cmp (earlier cmp x y) z ≡ earlier cmp x (earlier cmp y z)
      by true p true q =
          ap (λ c. earlier cmp c z) (is-second x y p) ∙ is-second y z q
          ∙ sym (is-second x z (ap is_lt (order.trans z y x (is-less (cmp z y) q) (is-less (cmp y x) p))))
          ∙ ap (earlier cmp x) (sym (is-second y z q))
      by true p false q =
          ap (λ c. earlier cmp c z) (is-second x y p) ∙ is-first y z q
          ∙ sym (is-second x y p) ∙ ap (earlier cmp x) (sym (is-first y z q))
      by false p true q =
          ap (λ c. earlier cmp c z) (is-first x y p) ∙ ap (earlier cmp x) (sym (is-second y z q))
      by false p false q =
          ap (λ c. earlier cmp c z) (is-first x y p)
          ∙ is-first x z (back z x ∙ upto order x y z (sym (back y x) ∙ p) (sym (back z y) ∙ q))
          ∙ sym (is-first x y p) ∙ ap (earlier cmp x) (sym (is-first y z q))

pub lesser-turn : (x y : Cell) → lesser x y ≡ lesser y x
lesser-turn = earlier-turn missing_last missing_last_total missing_last_same

pub lesser-regroup : (x y z : Cell) → lesser (lesser x y) z ≡ lesser x (lesser y z)
lesser-regroup = earlier-regroup missing_last missing_last_total missing_last_same

turned_same : IsAntisymmetric (flip_args compare_cells)
turned_same x y e = sym (cells_same y x e)

pub greater-turn : (x y : Cell) → greater x y ≡ greater y x
greater-turn = earlier-turn (flip_args compare_cells) (back_total cells_total) turned_same

pub greater-regroup : (x y z : Cell) → greater (greater x y) z ≡ greater x (greater y z)
greater-regroup = earlier-regroup (flip_args compare_cells) (back_total cells_total) turned_same

-- a missing cell is not before another one
pub missing_last-never : (x : Cell) → is_lt (missing_last cell.Missing x) ≡ false
missing_last-never cell.Missing = ap is_lt (tied_itself cells_total cell.Missing)
missing_last-never (cell.Int n) = refl
missing_last-never (cell.Date day) = refl
missing_last-never (cell.Text text) = refl

pub missing-never : (x : Cell) → is_lt (compare_cells x cell.Missing) ≡ false
unfolding compare_cells
missing-never cell.Missing = refl
missing-never (cell.Int n) = refl
missing-never (cell.Date day) = refl
missing-never (cell.Text text) = refl

-- and gives way to any other
pub lesser-missing : (x : Cell) → lesser x cell.Missing ≡ x
lesser-missing x = rw (missing_last-never x) refl

pub greater-missing : (x : Cell) → greater x cell.Missing ≡ x
greater-missing x = rw (missing-never x) refl

-- what holds of two cells holds of the earlier of them
pub earlier-keeps : (cmp : Cell → Cell → Ordering) (P : Cell → Type 0) (x y : Cell) → P x → P y → P (earlier cmp x y)
earlier-keeps cmp P x y first second = by (is_lt (cmp y x))
  where
    by : (b : Bool) → P (if b then y else x)
    by true = second
    by false = first
