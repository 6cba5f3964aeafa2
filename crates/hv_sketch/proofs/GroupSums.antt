-- What is kept of the groups of some rows, where a row comes after them and where they are joined with others.
use Rattle.std.proofs.Common.{◌≡◌, ◌<◌, ◌+◌, ◌++◌, ◌∷◌, [], inl, inr, ℕ, zero, suc, List, Option, Some, Bool, false, cond, refl, sym, ap, subst, length, get_or, set, arith, ◌∙◌}
use Rattle.std.specs.Prelude.{slice_get}
use Rattle.std.specs.List.{filter}
use Rattle.std.proofs.lemmas.Bool.{cases_eq, cond_both, eq-eqb, ne_eqb}
use Rattle.std.proofs.lemmas.List.{append-nil, get_or-set_other, get_or-set_same, length-set, map-append}
use Rattle.std.proofs.lemmas.List.Sums.{count_by-le-length, length-filter}
use Rattle.std.proofs.lemmas.Option.{get_or_from_slice_get, slice_get-get_or, slice_get_within}
use Rattle.hv_value.specs.Rows.{Row}
use Rattle.hv_sketch.specs.GroupLaws.{group_rows-join, ungrouped-join}
use Rattle.hv_sketch.specs.Groups.{AreMade, AreListed, CanSum, IsCopy, IsSum, OfPlace, StandForGroups, group_rows, is_group, numbers_of}
use Rattle.hv_sketch.specs.Merging.{CanMerge, HaveOneTag, IsApart}
use Rattle.hv_sketch.proofs.GroupRows.{all-picked}

-- ---- a row more

-- the numbers of a group's rows after it
numbers-more : (group : Row → Option ℕ) (g : ℕ) (rows : List Row) (found : Row)
    → numbers_of (group_rows group g (rows ++ found ∷ [])) ≡ numbers_of (group_rows group g rows) ++ numbers_of (cond (is_group g (group found)) (found ∷ []) [])
numbers-more group g rows found =
    ap numbers_of (group_rows-join group g rows (found ∷ []))
    ∙ map-append (λ (row : Row). row.number) (group_rows group g rows) (cond (is_group g (group found)) (found ∷ []) [])

-- its number is added to its group
numbers-here : (group : Row → Option ℕ) (g : ℕ) (rows : List Row) (found : Row) → group found ≡ Some g
    → numbers_of (group_rows group g (rows ++ found ∷ [])) ≡ numbers_of (group_rows group g rows) ++ found.number ∷ []
numbers-here group g rows found is = numbers-more group g rows found ∙ rw (is, eq-eqb g g refl) refl

-- and to no other
numbers-other : (group : Row → Option ℕ) (g : ℕ) (rows : List Row) (found : Row) → is_group g (group found) ≡ false
    → numbers_of (group_rows group g (rows ++ found ∷ [])) ≡ numbers_of (group_rows group g rows)
numbers-other group g rows found is_not = numbers-more group g rows found ∙ rw is_not (append-nil (numbers_of (group_rows group g rows)))

-- a row's own number is put at the end of its group's list
put_at_end : (group : Row → Option ℕ) (count : ℕ) (rows : List Row) (found : Row) (lists : List (List ℕ)) (rest h : ℕ)
    → AreListed group count rows lists rest → group found ≡ Some h → h < count
    → AreListed group count (rows ++ found ∷ []) (set lists h (get_or lists h [] ++ found.number ∷ [])) rest
put_at_end group count rows found lists rest h so_far is within =
    record {
      each = record { many = length-set lists h _ ∙ so_far.each.many; each = each };
      others = so_far.others ∙ sym (ungrouped-join group rows (found ∷ []) ∙ rw is (omega arith));
    }
  where
    low : h < length lists
    low = omega (arith, within, so_far.each.many)

    here : (x : List ℕ) → slice_get (set lists h (get_or lists h [] ++ found.number ∷ [])) h ≡ Some x
        → x ≡ numbers_of (group_rows group h (rows ++ found ∷ []))
    here x there =
        sym (get_or_from_slice_get (set lists h (get_or lists h [] ++ found.number ∷ [])) h x [] there)
        ∙ get_or-set_same lists h (get_or lists h [] ++ found.number ∷ []) [] low
        ∙ ap (λ numbers. numbers ++ found.number ∷ []) (so_far.each.each h (get_or lists h []) (slice_get-get_or lists h [] low))
        ∙ sym (numbers-here group h rows found is)

    each : (place : ℕ) (x : List ℕ) → slice_get (set lists h (get_or lists h [] ++ found.number ∷ [])) place ≡ Some x
        → x ≡ numbers_of (group_rows group place (rows ++ found ∷ []))
    each place x there =
        elim (cases_eq place h) [
          | inl same ↦ rw same (here x (subst (λ p. slice_get (set lists h (get_or lists h [] ++ found.number ∷ [])) p ≡ Some x) same there))
          | inr other ↦
              let inside = slice_get_within (set lists h (get_or lists h [] ++ found.number ∷ [])) place x there in
              sym (get_or_from_slice_get (set lists h (get_or lists h [] ++ found.number ∷ [])) place x [] there)
              ∙ get_or-set_other lists h place (get_or lists h [] ++ found.number ∷ []) [] other
              ∙ so_far.each.each place (get_or lists place [])
              (slice_get-get_or lists place [] (omega (arith, inside, length-set lists h (get_or lists h [] ++ found.number ∷ []))))
              ∙ sym (numbers-other group place rows found (rw is (ne_eqb place h other)))
        ]

-- and so is a number that is the row's
pub listed_more : (group : Row → Option ℕ) (count : ℕ) (rows : List Row) (found : Row) (lists : List (List ℕ)) (rest h n : ℕ)
    → AreListed group count rows lists rest → group found ≡ Some h → h < count → found.number ≡ n
    → AreListed group count (rows ++ found ∷ []) (set lists h (get_or lists h [] ++ n ∷ [])) rest
listed_more group count rows found lists rest h n so_far is within same =
    subst (λ m. AreListed group count (rows ++ found ∷ []) (set lists h (get_or lists h [] ++ m ∷ [])) rest) same
    (put_at_end group count rows found lists rest h so_far is within)

-- ---- joined with others

-- two lists that may be merged may be so where some rows were picked out of each
apart-picked : (p : Row → Bool) (a b : List Row) → IsApart a b → IsApart (filter p a) (filter p b)
apart-picked p [] b apart = tt
apart-picked p (x ∷ a) b apart =
    let later = apart-picked p a b apart.1 in
    cond_both (p x) (x ∷ filter p a) (filter p a) (λ rows. IsApart rows (filter p b)) (λ is. (all-picked p (λ y. ¬ HaveOneTag x y) b apart.0, later)) (λ is_not. later)

can_merge-picked : (p : Row → Bool) (a b : List Row) → CanMerge a b → CanMerge (filter p a) (filter p b)
can_merge-picked p a b h =
    record {
      apart = apart-picked p a b h.apart;
      few = omega (arith, h.few, length-filter p a, length-filter p b, count_by-le-length p a, count_by-le-length p b);
    }

-- there is an element at each place of a list
at_place : {X : Type 0} (xs : List X) (place : ℕ) → place < length xs → (x : X) × (slice_get xs place ≡ Some x)
at_place [] place within = absurd (omega arith)
at_place (x ∷ xs) zero within = (x, refl)
at_place (x ∷ xs) (suc place) within = at_place xs place (omega (arith, within))

module _ {S : Type 0} (group : Row → Option ℕ) (count : ℕ) (stands : List Row → S → Type 0) where
  -- those of each group may be merged
  pub can_sum : (a b : List Row) (xs ys : List S) (m n : ℕ)
      → StandForGroups group count stands a xs m → StandForGroups group count stands b ys n → CanMerge a b
      → (place : ℕ) → OfPlace xs place (λ s. OfPlace ys place (λ more. CanSum stands s more))
  can_sum a b xs ys m n first second merge place s here more there =
      (group_rows group place a, group_rows group place b, first.each.each place s here, second.each.each place more there, can_merge-picked (λ row. is_group place (group row)) a b merge)

  -- those that are merged stand for the groups of both
  pub summed-stand : (a b : List Row) (xs ys made : List S) (m n : ℕ)
      → StandForGroups group count stands a xs m → StandForGroups group count stands b ys n → CanMerge a b
      → AreMade (λ place t. OfPlace xs place (λ s. OfPlace ys place (λ more. IsSum stands s more t))) (length xs) made
      → StandForGroups group count stands (a ++ b) made (m + n)
  summed-stand a b xs ys made m n first second merge sums =
      record {
        each = record {
          many = sums.many ∙ first.each.many;
          each = λ place t there.
              let within = slice_get_within made place t there in
              let s = at_place xs place (omega (arith, within, sums.many)) in
              let more = at_place ys place (omega (arith, within, sums.many, first.each.many, second.each.many)) in
              rw (group_rows-join group place a b)
              (sums.each place t there s.0 s.1 more.0 more.1 (group_rows group place a) (group_rows group place b)
              (first.each.each place s.0 s.1) (second.each.each place more.0 more.1) (can_merge-picked (λ row. is_group place (group row)) a b merge));
        };
        others = omega (arith, first.others, second.others, ungrouped-join group a b);
      }

  -- copies stand for the groups of the same rows
  pub copied-stand : (rows : List Row) (xs made : List S) (m : ℕ) → StandForGroups group count stands rows xs m
      → AreMade (λ place t. OfPlace xs place (λ s. IsCopy stands s t)) (length xs) made → StandForGroups group count stands rows made m
  copied-stand rows xs made m h copies =
      record {
        each = record {
          many = copies.many ∙ h.each.many;
          each = λ place t there.
              let within = slice_get_within made place t there in
              let s = at_place xs place (omega (arith, within, copies.many)) in
              copies.each place t there s.0 s.1 (group_rows group place rows) (h.each.each place s.0 s.1);
        };
        others = h.others;
      }
