-- Rising left boundaries: those that aren't above a text come first, and where they end is how many they are.
use Rattle.std.proofs.Common.{◌≡◌, ◌≤◌, ◌<◌, ◌+◌, ◌∙◌, refl, ap, subst, ℕ, zero, suc, Bool, true, false, not, List, [], ◌∷◌, length, take, add-one, arith, sym, ◌-◌}
use Rattle.std.specs.List.{AllWithin, count_by}
use Rattle.std.specs.List.Sorted.{IsPartitionPoint, IsPartitionedBy}
use Rattle.std.specs.Prelude.{slice_index_or}
use Rattle.std.specs.Cmp.{first_so, second_so, upto}
use Rattle.std.specs.Cmp.Lexicographic.{nat_list_cmp_total, slice_cmp}
use Rattle.std.specs.Ordering.{is_gt, is_lt, nat_cmp}
use Rattle.std.specs.declared.cmp.Ordering.{Ordering}
use Rattle.std.specs.declared.cmp.Ordering.TheVariants.{Less, Equal, Greater}
use Rattle.std.proofs.lemmas.List.Sums.{count_by_more_no, count_by_more_yes}
use Rattle.std.proofs.Math.Seq.{take-length}
use Rattle.hv_bucket.specs.Buckets.{bounds_rise, is_reached}

turned : (b : Bool) → not b ≡ true → b ≡ false
turned true e = cc e
turned false e = refl

not_greater : (o : Ordering) → is_lt o ≡ true → is_gt o ≡ false
not_greater Less e = refl
not_greater Equal e = refl
not_greater Greater e = cc e

-- what is below a reached boundary is reached
below_reached : (t x y : List ℕ) → is_lt (slice_cmp nat_cmp x y) ≡ true → is_reached t y ≡ true → is_reached t x ≡ true
below_reached t x y below reached = ap not (upto nat_list_cmp_total x y t (not_greater _ below) (turned _ reached))

-- the first boundary is reached where any is
first_reached : (t x : List ℕ) (rest : List (List ℕ)) → bounds_rise (x ∷ rest) ≡ true → (j : ℕ) (d : List ℕ) → j < length (x ∷ rest)
    → is_reached t (slice_index_or (x ∷ rest) j d) ≡ true → is_reached t x ≡ true
first_reached t x rest h zero d within p = p
first_reached t x [] h (suc j) d within p = absurd (omega (arith, within))
first_reached t x (y ∷ ys) h (suc j) d within p =
    below_reached t x y (first_so _ _ h) (first_reached t y ys (second_so _ _ h) j d (omega (arith, within)) p)

-- the reached ones come first
pub reached-first : (t : List ℕ) (bounds : List (List ℕ)) → bounds_rise bounds ≡ true → IsPartitionedBy (is_reached t) bounds
reached-first t [] h i j d le within p = absurd (omega (arith, within))
reached-first t (x ∷ rest) h zero j d le within p = first_reached t x rest h j d within p
reached-first t (x ∷ rest) h (suc i) zero d le within p = absurd (omega (arith, le))
reached-first t (x ∷ rest) h (suc i) (suc j) d le within p =
    reached-first t rest (second_so _ _ h) i j d (omega (arith, le)) (omega (arith, within)) p

module _ (p : List ℕ → Bool) (xs : List (List ℕ)) (i : ℕ) (few : i ≤ length xs) where
  -- up to the point each passes
  passing : AllWithin (λ y. p y ≡ true) xs 0 i → (n : ℕ) → n ≤ i → count_by p (take n xs) ≡ n
  passing h zero le = refl
  passing h (suc n) le =
      subst (λ m. count_by p (take m xs) ≡ m) (add-one n)
      (count_by_more_yes p xs n [] (omega (arith, le, few)) (h n [] (omega arith) (omega (arith, le)))
      ∙ ap (λ m. m + 1) (passing h n (omega (arith, le))))

  -- and from there on none
  failing : IsPartitionPoint (λ y. p y ≡ true) (λ y. p y ≡ false) xs i → (n : ℕ) → i + n ≤ length xs → count_by p (take (i + n) xs) ≡ i
  failing h zero le = subst (λ m. count_by p (take m xs) ≡ i) (omega arith) (passing h.0 i (omega arith))
  failing h (suc n) le =
      subst (λ m. count_by p (take m xs) ≡ i) (omega arith)
      (count_by_more_no p xs (i + n) [] (omega (arith, le)) (h.1 (i + n) [] (omega arith) (omega (arith, le)))
      ∙ failing h n (omega (arith, le)))

  -- so the point is how many pass
  pub point-counts : IsPartitionPoint (λ y. p y ≡ true) (λ y. p y ≡ false) xs i → i ≡ count_by p xs
  point-counts h =
      let all : i + (length xs - i) ≡ length xs = omega (arith, few) in
      let counted = failing h (length xs - i) (omega (arith, all)) in
      sym (subst (λ l. count_by p l ≡ i) (take-length xs) (subst (λ m. count_by p (take m xs) ≡ i) all counted))
