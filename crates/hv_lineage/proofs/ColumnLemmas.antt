-- Columns chosen one by one.
use Rattle.std.proofs.Common.{◌≡◌, ◌<◌, ◌+◌, ◌∷◌, ◌++◌, [], ℕ, zero, suc, List, Bool, Option, Some, None, true, false, refl, subst, sym, ap, length, get_or, take, add-one, arith}
use Rattle.std.specs.Prelude.{◌&&◌, ◌||◌, option_map, slice_get}
use Rattle.std.specs.List.{AllByRecursion, list_all, cons_option}
use Rattle.hv_value.specs.declared.cell.Kind.{Kind}
use Rattle.hv_value.specs.Schema.{Columns}
use Rattle.hv_lineage.specs.Made.{column_named, picked}
use Rattle.hv_lineage.specs.Refusals.{has_column, have_common}

-- one more element
pub take-next : {X : Type 0} (xs : List X) (j : ℕ) (x : X) → slice_get xs j ≡ Some x → take (j + 1) xs ≡ take j xs ++ x ∷ []
take-next xs j x there = rw add-one (from xs j x there)
  where
    from : {X : Type 0} (xs : List X) (j : ℕ) (x : X) → slice_get xs j ≡ Some x → take (suc j) xs ≡ take j xs ++ x ∷ []
    from [] j x there = absurd (cc there)
    from (y ∷ xs) zero x there = let same : y ≡ x = cc there in rw same refl
    from (y ∷ xs) (suc j) x there = ap (λ (rest : List _). y ∷ rest) (from xs j x there)

-- the columns of one more name that is there
pub picked-next : (columns : Columns) (names : List (List ℕ)) (j : ℕ) (name : List ℕ) (column : List ℕ × Kind) → j < length names
    → name ≡ get_or names j name → column_named columns name ≡ Some column
    → picked columns (take (j + 1) names) ≡ picked columns (take j names) ++ column ∷ []
picked-next columns names j name column within at there = rw add-one (from names j within at)
  where
    from : (names : List (List ℕ)) (j : ℕ) → j < length names → name ≡ get_or names j name
        → picked columns (take (suc j) names) ≡ picked columns (take j names) ++ column ∷ []
    from [] j within at = absurd (omega (arith, within))
    from (first ∷ names) zero within at = rw (← at, there) refl
    from (first ∷ names) (suc j) within at = by (column_named columns first) (from names j (omega (arith, within)) at)
      where
        by : (o : Option (List ℕ × Kind)) → picked columns (take (suc j) names) ≡ picked columns (take j names) ++ column ∷ []
            → cons_option o (picked columns (take (suc j) names)) ≡ cons_option o (picked columns (take j names)) ++ column ∷ []
        by None more = more
        by (Some c) more = ap (λ (rest : Columns). c ∷ rest) more

-- one more name that is there
pub all-next : (p : List ℕ → Bool) (names : List (List ℕ)) (j : ℕ) (name : List ℕ) → j < length names → name ≡ get_or names j name
    → list_all p (take j names) ≡ true → p name ≡ true → list_all p (take (j + 1) names) ≡ true
all-next p names j name within at all here = rw add-one (from names j within at all)
  where
    from : (names : List (List ℕ)) (j : ℕ) → j < length names → name ≡ get_or names j name → list_all p (take j names) ≡ true
        → list_all p (take (suc j) names) ≡ true
    from [] j within at all = absurd (omega (arith, within))
    from (first ∷ names) zero within at all = rw (← at, here) refl
    from (first ∷ names) (suc j) within at all = by (p first) all (from names j (omega (arith, within)) at)
      where
        by : (b : Bool) → (b && list_all p (take j names)) ≡ true → (list_all p (take j names) ≡ true → list_all p (take (suc j) names) ≡ true)
            → (b && list_all p (take (suc j) names)) ≡ true
        by true all more = more all
        by false all more = absurd (cc all)

-- an element at a place is the one there, whatever stands past the end
pub same-at : {X : Type 0} (xs : List X) (j : ℕ) (x d : X) → j < length xs → x ≡ get_or xs j x → x ≡ get_or xs j d
same-at [] j x d within at = absurd (omega (arith, within))
same-at (y ∷ xs) zero x d within at = at
same-at (y ∷ xs) (suc j) x d within at = same-at xs j x d (omega (arith, within)) at

-- and is as each element is
pub all-at : {X : Type 0} (P : X → Type 0) (xs : List X) (j : ℕ) (x : X) → AllByRecursion P xs → j < length xs → x ≡ get_or xs j x → P x
all-at P [] j x all within at = absurd (omega (arith, within))
all-at P (y ∷ xs) zero x all within at = subst P (sym at) all.0
all-at P (y ∷ xs) (suc j) x all within at = all-at P xs j x all.1 (omega (arith, within)) at

-- one more right column whose name the left hasn't
pub common-next : (left right : Columns) (j : ℕ) (name : List ℕ) → option_map (λ column. column.0) (slice_get right j) ≡ Some name
    → have_common left (take j right) ≡ false → has_column left name ≡ false → have_common left (take (j + 1) right) ≡ false
common-next left right j name there none here = rw add-one (from right j there none)
  where
    from : (columns : Columns) (j : ℕ) → option_map (λ column. column.0) (slice_get columns j) ≡ Some name
        → have_common left (take j columns) ≡ false → have_common left (take (suc j) columns) ≡ false
    from [] j there none = absurd (cc there)
    from (first ∷ columns) zero there none = let same : first.0 ≡ name = cc there in rw (same, here) refl
    from (first ∷ columns) (suc j) there none = by (has_column left first.0) none (from columns j there)
      where
        by : (b : Bool) → (b || have_common left (take j columns)) ≡ false
            → (have_common left (take j columns) ≡ false → have_common left (take (suc j) columns) ≡ false)
            → (b || have_common left (take (suc j) columns)) ≡ false
        by true none more = absurd (cc none)
        by false none more = more none

-- a right column whose name the left has
pub common-there : (left right : Columns) (j : ℕ) (name : List ℕ) → option_map (λ column. column.0) (slice_get right j) ≡ Some name
    → has_column left name ≡ true → have_common left right ≡ true
common-there left [] j name there here = absurd (cc there)
common-there left (first ∷ right) zero name there here = let same : first.0 ≡ name = cc there in rw (same, here) refl
common-there left (first ∷ right) (suc j) name there here = by (has_column left first.0) (common-there left right j name there here)
  where
    by : (b : Bool) → have_common left right ≡ true → (b || have_common left right) ≡ true
    by true rest = refl
    by false rest = rest
