-- The rows of a table that pass a test, and the search for the first of their numbers at or above one.
use Rattle.std.proofs.Common.{Bor, ◌≡◌, ◌≤◌, ◌<◌, ◌+◌, ◌-◌, ◌⊎◌, inl, inr, [], ◌∷◌, ℕ, zero, suc, List, Bool, Option, Some, None, true, false, cond, refl, sym, ap, subst, ltb, length, get_or, arith, ◌∙◌}
use Rattle.std.specs.Prelude.{nat_le, if◌then◌else◌, option_map, slice_get, IfSome, is_some}
use Rattle.std.specs.Option.{option_copied}
use Rattle.std.specs.List.{AllByRecursion, filter}
use Rattle.std.specs.List.Sorted.{IsNonDecreasing, IsPartitionPoint}
use Rattle.std.proofs.lemmas.Bool.{cond_both, le-leb, lt-leb, le-ltb, lt-ltb, ltb-true, ltb-false}
use Rattle.std.proofs.lemmas.Grind.{get_or_default_zero}
use Rattle.std.proofs.lemmas.Option.{slice_get_past, slice_get-get_or}
use Rattle.hv_value.specs.Codes.{HoldCodes}
use Rattle.hv_value.specs.Rows.{Row}
use Rattle.hv_value.specs.Schema.{Columns}
use Rattle.hv_value.specs.Table.{AreRowsFrom, IsTable, first_row, onward, row_from}
use Rattle.hv_value.proofs.TableFacts.{AreRowsFrom-lower, row_found}
use Rattle.hv_sketch.specs.Groups.{first_number, group_rows, is_group, numbers_of}

-- a row that is found has a number from the least on
found_low : (columns : Columns) (part least from : ℕ) (rows : List Row) (found : Row)
    → AreRowsFrom columns part least rows → row_from from rows ≡ Some found → least ≤ found.number
found_low columns part least from [] found h e = absurd (cc e)
found_low columns part least from (row ∷ rows) found h e =
    by (nat_le from row.number) e (λ more. found_low columns part (row.number + 1) from rows found h.1 more)
  where
    by : (b : Bool) → first_row (if b then row ∷ rows else onward from rows) ≡ Some found
        → (row_from from rows ≡ Some found → row.number + 1 ≤ found.number) → least ≤ found.number
    by true e more = let same : row ≡ found = cc e in subst (λ r. least ≤ r.number) same h.0.at_least
    by false e more = omega (arith, more e, h.0.at_least)

-- what holds of each element holds of each that passes a test
pub all-picked : {X : Type 0} (p : X → Bool) (P : X → Type 0) (xs : List X) → AllByRecursion P xs → AllByRecursion P (filter p xs)
all-picked p P [] all = tt
all-picked p P (x ∷ xs) all =
    let later = all-picked p P xs all.1 in
    cond_both (p x) (x ∷ filter p xs) (filter p xs) (AllByRecursion P) (λ is. (all.0, later)) (λ is_not. later)

module _ (p : Row → Bool) where
  -- they make a table as well
  pub picked-are : (columns : Columns) (part from : ℕ) (rows : List Row) → AreRowsFrom columns part from rows → AreRowsFrom columns part from (filter p rows)
  picked-are columns part from [] h = tt
  picked-are columns part from (row ∷ rows) h =
      let later = picked-are columns part (row.number + 1) rows h.1 in
      cond_both (p row) (row ∷ filter p rows) (filter p rows) (AreRowsFrom columns part from) (λ is. (h.0, later))
      (λ is_not. AreRowsFrom-lower columns part (row.number + 1) from (filter p rows) (omega (arith, h.0.at_least)) later)

  -- one that is found among them by its own number is so among all rows
  pub picked-there : (columns : Columns) (part least from : ℕ) (rows : List Row) (found : Row) → AreRowsFrom columns part least rows
      → row_from from (filter p rows) ≡ Some found → found.number ≡ from → row_from from rows ≡ Some found
  picked-there columns part least from [] found h e is = absurd (cc e)
  picked-there columns part least from (row ∷ rows) found h e is =
      by (p row) e (λ more. picked-there columns part (row.number + 1) from rows found h.1 more is)
    where
      here : (b : Bool) → first_row (if b then row ∷ filter p rows else onward from (filter p rows)) ≡ Some found
          → (row_from from (filter p rows) ≡ Some found → row_from from rows ≡ Some found)
          → first_row (if b then row ∷ rows else onward from rows) ≡ Some found
      here true e more = e
      here false e more = more e

      by : (b : Bool) → row_from from (cond b (row ∷ filter p rows) (filter p rows)) ≡ Some found
          → (row_from from (filter p rows) ≡ Some found → row_from from rows ≡ Some found) → row_from from (row ∷ rows) ≡ Some found
      by true e more = here (nat_le from row.number) e more
      by false e more =
          let there = more e in
          let up = found_low columns part (row.number + 1) from rows found h.1 there in
          rw (lt-leb from row.number (omega (arith, up, is))) there

  -- and so is its number
  pub number-there : (columns : Columns) (part row : ℕ) (rows : List Row) → IsTable columns part rows
      → option_map (λ (found : Row). found.number) (row_from row (filter p rows)) ≡ Some row
      → option_map (λ (found : Row). found.number) (row_from row rows) ≡ Some row
  number-there columns part row rows table e =
      let given = row_found (row_from row (filter p rows)) row e in
      rw (picked-there columns part 0 row rows given.0 table given.1 given.2) (ap Some given.2)

  -- codes of all rows' cells are those of theirs
  pub picked-codes : (col : ℕ) (rows : List Row) (words : List (List ℕ)) (codes : List ℕ) → HoldCodes col rows words codes → HoldCodes col (filter p rows) words codes
  picked-codes col rows words codes h = record { stand = all-picked p _ rows h.stand; within = h.within; own = h.own }

-- no number of a table's rows is below the least
number-low : (columns : Columns) (part least : ℕ) (rows : List Row) (k d : ℕ) → AreRowsFrom columns part least rows
    → k < length (numbers_of rows) → least ≤ get_or (numbers_of rows) k d
number-low columns part least [] k d h within = absurd (omega (arith, within))
number-low columns part least (row ∷ rows) zero d h within = h.0.at_least
number-low columns part least (row ∷ rows) (suc k) d h within =
    omega (arith, h.0.at_least, number-low columns part (row.number + 1) rows k d h.1 (omega (arith, within)))

-- the numbers of a table's rows don't fall
pub numbers-up : (columns : Columns) (part least : ℕ) (rows : List Row) → AreRowsFrom columns part least rows → IsNonDecreasing (numbers_of rows)
numbers-up columns part least [] h i j d order within = absurd (omega (arith, within))
numbers-up columns part least (row ∷ rows) h zero zero d order within = omega arith
numbers-up columns part least (row ∷ rows) h zero (suc j) d order within =
    omega (arith, number-low columns part (row.number + 1) rows j d h.1 (omega (arith, within)))
numbers-up columns part least (row ∷ rows) h (suc i) zero d order within = absurd (omega (arith, order))
numbers-up columns part least (row ∷ rows) h (suc i) (suc j) d order within =
    numbers-up columns part (row.number + 1) rows h.1 i j d (omega (arith, order)) (omega (arith, within))

-- the first number from one on is that of the first row
pub first_number-row : (from : ℕ) (rows : List Row) → first_number from (numbers_of rows) ≡ option_map (λ row. row.number) (row_from from rows)
first_number-row from [] = refl
first_number-row from (row ∷ rows) = by (nat_le from row.number) (first_number-row from rows)
  where
    by : (b : Bool) → first_number from (numbers_of rows) ≡ option_map (λ r. r.number) (row_from from rows)
        → cond b (Some row.number) (first_number from (numbers_of rows)) ≡ option_map (λ (r : Row). r.number) (first_row (if b then row ∷ rows else onward from rows))
    by true later = refl
    by false later = later

abbrev pub PartsAt : ℕ → List ℕ → ℕ → Type 0
PartsAt from numbers place = IsPartitionPoint (λ n. ltb n from ≡ true) (λ n. ltb n from ≡ false) numbers place

-- it stands at the place before which the numbers are below
pub first_number-place : (from : ℕ) (numbers : List ℕ) (place : ℕ) → PartsAt from numbers place → slice_get numbers place ≡ first_number from numbers
first_number-place from [] place parts = refl
first_number-place from (n ∷ numbers) zero parts =
    let first : from ≤ n = ltb-false n from (parts.1 0 0 (omega arith) (omega arith)) in rw (le-leb from n first) refl
first_number-place from (n ∷ numbers) (suc place) parts =
    let first : n < from = ltb-true n from (parts.0 0 0 (omega arith) (omega arith)) in
    rw (lt-leb from n first)
    (first_number-place from numbers place (λ k d low high. parts.0 (suc k) d (omega arith) (omega arith), λ k d low high. parts.1 (suc k) d (omega arith) (omega arith)))

-- a place of numbers that don't fall is that one, where its number isn't below and the one before it is
pub first_number-here : (from : ℕ) (numbers : List ℕ) (place : ℕ) → IsNonDecreasing numbers → place < length numbers
    → from ≤ get_or numbers place 0 → (place ≡ 0) ⊎ (get_or numbers (place - 1) 0 < from) → slice_get numbers place ≡ first_number from numbers
first_number-here from numbers place up within high low =
    first_number-place from numbers place (before, behind)
  where
    before : (k d : ℕ) → 0 ≤ k → k < place → ltb (get_or numbers k d) from ≡ true
    before k d least most =
        lt-ltb (get_or numbers k d) from
        (elim low [
          | inl none ↦ absurd (omega (arith, none, most))
          | inr less ↦
              omega (
                arith,
                less,
                up k (place - 1) d (omega (arith, most)) (omega (arith, most, within)),
                get_or_default_zero numbers (place - 1) d (omega (arith, most, within)),
              )
        ])

    behind : (k d : ℕ) → place ≤ k → k < length numbers → ltb (get_or numbers k d) from ≡ false
    behind k d least most =
        le-ltb (get_or numbers k d) from (omega (arith, high, up place k d least most, get_or_default_zero numbers place d within))

-- the numbers of a group's rows don't fall
pub group-up : (columns : Columns) (part : ℕ) (group : Row → Option ℕ) (k : ℕ) (rows : List Row) (numbers : List ℕ)
    → numbers ≡ numbers_of (group_rows group k rows) → IsTable columns part rows → IsNonDecreasing numbers
group-up columns part group k rows numbers e table =
    subst IsNonDecreasing (sym e) (numbers-up columns part 0 (group_rows group k rows) (picked-are (λ row. is_group k (group row)) columns part 0 rows table))

-- what `get` lends at a place, copied
copied-get : (xs : List ℕ) (i : ℕ) (r : Option (Bor ℕ)) → is_some r ≡ ltb i (length xs) → IfSome r (λ x. x.now ≡ get_or xs i x.now)
    → option_copied r ≡ slice_get xs i
copied-get xs i None lent same = sym (slice_get_past xs i (ltb-false i (length xs) (sym lent)))
copied-get xs i (Some x) lent same =
    let within : i < length xs = ltb-true i (length xs) (sym lent) in
    sym (slice_get-get_or xs i x.now within ∙ ap Some (sym same))

-- the number that is lent at the place of the first is that of the group's first row
pub group-number : (group : Row → Option ℕ) (k : ℕ) (rows : List Row) (numbers : List ℕ) (from place : ℕ) (r : Option (Bor ℕ))
    → numbers ≡ numbers_of (group_rows group k rows) → slice_get numbers place ≡ first_number from numbers
    → is_some r ≡ ltb place (length numbers) → IfSome r (λ x. x.now ≡ get_or numbers place x.now)
    → option_copied r ≡ option_map (λ row. row.number) (row_from from (group_rows group k rows))
group-number group k rows numbers from place r e there lent same =
    copied-get numbers place r lent same ∙ there ∙ ap (first_number from) e ∙ first_number-row from (group_rows group k rows)
