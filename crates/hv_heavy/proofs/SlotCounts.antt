-- The counts of values by slot are the parts of what is shown of them.
use Rattle.std.proofs.Common.{◌≡◌, ◌≤◌, ◌<◌, ◌+◌, ◌^◌, ◌++◌, ◌==◌, ◌∙◌, refl, sym, ap, subst, ℕ, zero, suc, Bool, true, false, cond, eqb, ltb, List, [], ◌∷◌, length, map, take, get_or, add-one, append_assoc, arith}
use Rattle.std.specs.Prelude.{if◌then◌else◌}
use Rattle.std.specs.List.{count_by, range_with_len, sum}
use Rattle.std.proofs.lemmas.Bool.{eq-eqb, eqb-false, eqb-true, false_from_ne_true, le-ltb, lt-ltb, ltb-false, ltb-true, ne_eqb, true≢false}
use Rattle.std.proofs.Math.Dec.{eqb-suc-suc, eqb-suc-zero, eqb-zero-suc}
use Rattle.std.proofs.lemmas.List.FromFn.{sum_by-map-range_with_len_more, take-map-range_with_len}
use Rattle.std.proofs.lemmas.List.Sums.{count_by-le-length, sum_by-cons}
use Rattle.hv_value.specs.declared.cell.Cell.{Cell}
use Rattle.hv_value.specs.declared.cell.Cell.TheVariants as cell
use Rattle.hv_value.specs.Cells.{cell_at}
use Rattle.hv_value.specs.Order.{compare_cells}
use Rattle.hv_value.specs.Rows.{Row}
use Rattle.hv_sketch.specs.ColumnCells.{cells_in, is_missing}
use Rattle.hv_sketch.specs.Tally.{count_in}
use Rattle.hv_sketch.specs.TallyLaws.{tally-at}
use Rattle.hv_heavy.specs.CountOf.{IsCount, counts_of, first_place, slot_in, slot_of, value_count}
use Rattle.hv_heavy.specs.Heavy.{count_of, is_same, values_of}
use Rattle.hv_heavy.specs.declared.count_of.CountShown.{CountShown}
use Rattle.hv_heavy.proofs.Near.{same-is}
use Rattle.hv_heavy.proofs.PlaceFacts.{first-le, same-itself}

-- what a row or a cell adds to a count
abbrev weight : Bool → ℕ
weight b = cond b 1 0

-- a value of a list has a place below its length
first-there : (before after : List Cell) (value : Cell) → first_place (before ++ value ∷ after) value < length (before ++ value ∷ after)
first-there [] after value = rw (same-itself value) (omega arith)
first-there (x ∷ xs) after value = by (first-there xs after value) (is_same x value)
  where
    by : first_place (xs ++ value ∷ after) value < length (xs ++ value ∷ after) → (b : Bool) → (if b then 0 else suc (first_place (xs ++ value ∷ after) value)) < suc (length (xs ++ value ∷ after))
    by rest true = omega arith
    by rest false = omega (arith, rest)

-- cells with the first place of a value among the values are that value
same-place : (values : List Cell) (value c : Cell) → first_place values value < length values → (first_place values c == first_place values value) ≡ is_same value c
same-place [] value c there = absurd (omega (arith, there))
same-place (x ∷ xs) value c there = by (same-place xs value c) (is_same x c) (is_same x value) refl refl
  where
    by : (first_place xs value < length xs → (first_place xs c == first_place xs value) ≡ is_same value c) → (b d : Bool) → is_same x c ≡ b → is_same x value ≡ d
        → ((if b then 0 else suc (first_place xs c)) == (if d then 0 else suc (first_place xs value))) ≡ is_same value c
    by rest true true is has = sym (ap (λ y. is_same y c) (sym (same-is x value has)) ∙ is)
    by rest true false is has =
        eqb-zero-suc (first_place xs value)
        ∙ sym (false_from_ne_true (is_same value c) (λ e. true≢false (sym (subst (λ y. is_same x y ≡ true) (sym (same-is value c e)) is) ∙ has)))
    by rest false true is has =
        eqb-suc-zero (first_place xs c)
        ∙ sym (subst (λ y. is_same y c ≡ false) (same-is x value has) is)
    by rest false false is has =
        let below : suc (first_place xs value) < suc (length xs) = rw has at there in
        eqb-suc-suc (first_place xs c) (first_place xs value) ∙ rest (omega (arith, below))

-- none of the cells that aren't missing is a missing value
none-missing : (cells : List Cell) → count_of cells cell.Missing ≡ 0
unfolding compare_cells
none-missing [] = refl
none-missing (cell.Missing ∷ cells) = none-missing cells
none-missing (cell.Int n ∷ cells) = sum_by-cons (λ x. weight (is_same cell.Missing x)) (cell.Int n) (values_of cells) ∙ omega (arith, none-missing cells)
none-missing (cell.Date day ∷ cells) = sum_by-cons (λ x. weight (is_same cell.Missing x)) (cell.Date day) (values_of cells) ∙ omega (arith, none-missing cells)
none-missing (cell.Text text ∷ cells) = sum_by-cons (λ x. weight (is_same cell.Missing x)) (cell.Text text) (values_of cells) ∙ omega (arith, none-missing cells)

-- what one cell adds to the count of a value's slot, to that of the missing ones, and to that of all others
module _ (values : List Cell) where
  one-value : (value : Cell) → first_place values value < length values → (cells : List Cell) (c : Cell)
      → weight (slot_of values c == first_place values value) + count_of cells value ≡ count_of (c ∷ cells) value
  one-value value there cells cell.Missing =
      ap (λ b. weight b + count_of cells value) (ne_eqb (length values + 1) (first_place values value) (λ same. omega (arith, same, there))) ∙ omega arith
  one-value value there cells (cell.Int n) =
      ap (λ b. weight b + count_of cells value) (same-place values value (cell.Int n) there)
      ∙ sym (sum_by-cons (λ x. weight (is_same value x)) (cell.Int n) (values_of cells))
  one-value value there cells (cell.Date day) =
      ap (λ b. weight b + count_of cells value) (same-place values value (cell.Date day) there)
      ∙ sym (sum_by-cons (λ x. weight (is_same value x)) (cell.Date day) (values_of cells))
  one-value value there cells (cell.Text text) =
      ap (λ b. weight b + count_of cells value) (same-place values value (cell.Text text) there)
      ∙ sym (sum_by-cons (λ x. weight (is_same value x)) (cell.Text text) (values_of cells))

  other-slot : (c : Cell) → (first_place values c == length values + 1) ≡ false
  other-slot c = ne_eqb (first_place values c) (length values + 1) (λ same. omega (arith, same, first-le values c))

  one-missing : (c : Cell) → (slot_of values c == length values + 1) ≡ is_missing c
  one-missing cell.Missing = eq-eqb (length values + 1) (length values + 1) refl
  one-missing (cell.Int n) = other-slot (cell.Int n)
  one-missing (cell.Date day) = other-slot (cell.Date day)
  one-missing (cell.Text text) = other-slot (cell.Text text)

  low-slot : (c : Cell) → ltb (first_place values c) (length values + 1) ≡ true
  low-slot c = lt-ltb (first_place values c) (length values + 1) (omega (arith, first-le values c))

  one-other : (cells : List Cell) (c : Cell) → weight (ltb (slot_of values c) (length values + 1)) + length (values_of cells) ≡ length (values_of (c ∷ cells))
  one-other cells cell.Missing = ap (λ b. weight b + length (values_of cells)) (le-ltb (length values + 1) (length values + 1) (omega arith)) ∙ omega arith
  one-other cells (cell.Int n) = ap (λ b. weight b + length (values_of cells)) (low-slot (cell.Int n)) ∙ omega arith
  one-other cells (cell.Date day) = ap (λ b. weight b + length (values_of cells)) (low-slot (cell.Date day)) ∙ omega arith
  one-other cells (cell.Text text) = ap (λ b. weight b + length (values_of cells)) (low-slot (cell.Text text)) ∙ omega arith

-- so of all rows
module _ (col : ℕ) (values : List Cell) where
  slot-value : (value : Cell) → first_place values value < length values → (rows : List Row)
      → count_in (slot_in col values) rows (first_place values value) ≡ count_of (cells_in col rows) value
  slot-value value there [] = refl
  slot-value value there (row ∷ rows) =
      sum_by-cons (λ x. weight (slot_in col values x == first_place values value)) row rows
      ∙ ap (λ n. weight (slot_in col values row == first_place values value) + n) (slot-value value there rows)
      ∙ one-value values value there (cells_in col rows) (cell_at row.cells col)

  slot-missing : (rows : List Row) → count_in (slot_in col values) rows (length values + 1) ≡ count_by is_missing (cells_in col rows)
  slot-missing [] = refl
  slot-missing (row ∷ rows) =
      sum_by-cons (λ x. weight (slot_in col values x == length values + 1)) row rows
      ∙ ap (λ n. weight (slot_in col values row == length values + 1) + n) (slot-missing rows)
      ∙ ap (λ b. weight b + count_by is_missing (cells_in col rows)) (one-missing values (cell_at row.cells col))
      ∙ sym (sum_by-cons (λ x. weight (is_missing x)) (cell_at row.cells col) (cells_in col rows))

  slots-others : (rows : List Row) → count_by (λ row. ltb (slot_in col values row) (length values + 1)) rows ≡ length (values_of (cells_in col rows))
  slots-others [] = refl
  slots-others (row ∷ rows) =
      sum_by-cons (λ x. weight (ltb (slot_in col values x) (length values + 1))) row rows
      ∙ ap (λ n. weight (ltb (slot_in col values row) (length values + 1)) + n) (slots-others rows)
      ∙ one-other values (cells_in col rows) (cell_at row.cells col)

-- one more slot takes the rows of that slot
one_more : (k n : ℕ) → weight (ltb k n) + weight (eqb k n) ≡ weight (ltb k (n + 1))
one_more k n = by (ltb k n) (eqb k n) refl refl
  where
    by : (b c : Bool) → ltb k n ≡ b → eqb k n ≡ c → weight b + weight c ≡ weight (ltb k (n + 1))
    by true true below same = absurd (omega (arith, ltb-true k n below, eqb-true k n same))
    by true false below same = rw (lt-ltb k (n + 1) (omega (arith, ltb-true k n below))) refl
    by false true below same = rw (lt-ltb k (n + 1) (omega (arith, eqb-true k n same))) refl
    by false false below same =
        let above : n + 1 ≤ k = omega (arith, ltb-false k n below, eqb-false k n same) in
        rw (le-ltb k (n + 1) above) refl

weightless : (b : Bool) → b ≡ false → weight b ≡ 0
weightless true e = cc e
weightless false e = refl

module _ (slot : Row → ℕ) where
  none-below : (rows : List Row) → 0 ≡ count_by (λ row. ltb (slot row) 0) rows
  none-below [] = refl
  none-below (row ∷ rows) =
      let low = weightless (ltb (slot row) 0) (le-ltb (slot row) 0 (omega arith)) in
      omega (arith, none-below rows, low, sum_by-cons (λ x. weight (ltb (slot x) 0)) row rows)

  split : (n : ℕ) (rows : List Row) → count_by (λ row. ltb (slot row) n) rows + count_in slot rows n ≡ count_by (λ row. ltb (slot row) (n + 1)) rows
  split n [] = refl
  split n (row ∷ rows) =
      omega (
        arith,
        one_more (slot row) n,
        split n rows,
        sum_by-cons (λ x. weight (ltb (slot x) n)) row rows,
        sum_by-cons (λ x. weight (eqb (slot x) n)) row rows,
        sum_by-cons (λ x. weight (ltb (slot x) (n + 1))) row rows,
      )

  -- the counts of the first slots are together those of the rows in them
  sum-of : (rows : List Row) (n : ℕ) → sum (map (count_in slot rows) (range_with_len 0 n)) ≡ count_by (λ row. ltb (slot row) n) rows
  sum-of rows zero = none-below rows
  sum-of rows (suc n) =
      subst (λ m. sum (map (count_in slot rows) (range_with_len 0 m)) ≡ count_by (λ row. ltb (slot row) m) rows) (add-one n)
      (sum_by-map-range_with_len_more (λ x. x) (count_in slot rows) 0 n n (omega arith)
      ∙ ap (λ m. m + count_in slot rows n) (sum-of rows n) ∙ split n rows)

abbrev parts : List ℕ → ℕ → ℕ → CountShown
parts counts missing n = record { counts = counts; missing = missing; n = n }

module _ (col : ℕ) (values : List Cell) (rows : List Row) (counts : List ℕ) (h : IsCount col values rows counts) where
  -- the count of a slot
  slot-count : (s : ℕ) → s < length values + 2 → get_or counts s 0 ≡ count_in (slot_in col values) rows s
  slot-count s within = ap (λ l. get_or l s 0) h.is ∙ tally-at (length values + 2) (slot_in col values) rows s within

  -- the count of a value among them is that of its cells
  value-is : (value : Cell) → first_place values value < length values → value_count values counts value ≡ count_of (cells_in col rows) value
  value-is value there = by value there
    where
      read : (value : Cell) → first_place values value < length values → get_or counts (first_place values value) 0 ≡ count_of (cells_in col rows) value
      read value there = slot-count (first_place values value) (omega (arith, there)) ∙ slot-value col values value there rows

      by : (value : Cell) → first_place values value < length values → value_count values counts value ≡ count_of (cells_in col rows) value
      by cell.Missing there = sym (none-missing (cells_in col rows))
      by (cell.Int n) there = read (cell.Int n) there
      by (cell.Date day) there = read (cell.Date day) there
      by (cell.Text text) there = read (cell.Text text) there

  values-are : (before after : List Cell) → values ≡ before ++ after → map (value_count values counts) after ≡ map (count_of (cells_in col rows)) after
  values-are before [] e = refl
  values-are before (value ∷ after) e =
      let there : first_place values value < length values = subst (λ l. first_place l value < length l) (sym e) (first-there before after value) in
      ap (λ n. n ∷ map (value_count values counts) after) (value-is value there)
      ∙ ap (λ l. count_of (cells_in col rows) value ∷ l) (values-are (before ++ value ∷ []) after (e ∙ sym (append_assoc before (value ∷ []) after)))

  -- the sum of all slots but the last is the number of cells that aren't missing
  others-are : sum (take (length values + 1) counts) ≡ length (values_of (cells_in col rows))
  others-are =
      ap (λ l. sum (take (length values + 1) l)) h.is
      ∙ ap sum (take-map-range_with_len (count_in (slot_in col values) rows) 0 (length values + 2) (length values + 1) (omega arith))
      ∙ sum-of (slot_in col values) rows (length values + 1)
      ∙ slots-others col values rows

  others-fit : sum (take (length values + 1) counts) < 2 ^ 64
  others-fit =
      omega (
        arith,
        h.few,
        others-are,
        slots-others col values rows,
        count_by-le-length (λ row. ltb (slot_in col values row) (length values + 1)) rows,
      )

  -- so the parts are those of what is shown
  pub counts-are : (shown : List ℕ) (missing n : ℕ) → shown ≡ map (value_count values counts) values → missing ≡ get_or counts (length values + 1) 0
      → (sum (take (length values + 1) counts) < 2 ^ 64 → n ≡ sum (take (length values + 1) counts))
      → parts shown missing n ≡ counts_of col values rows
  counts-are shown missing n is_shown is_missing is_n =
      rw (
        is_shown ∙ values-are [] values refl,
        is_missing ∙ slot-count (length values + 1) (omega arith) ∙ slot-missing col values rows,
        is_n others-fit ∙ others-are,
      ) refl
