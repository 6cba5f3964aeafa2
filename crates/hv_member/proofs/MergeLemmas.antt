-- One pass over two rising lists: what is still to be combined, and what each order of the two firsts adds.
use Rattle.std.proofs.Common.{◌≡◌, ℕ, suc, ◌-◌, ◌<◌, true, false, not, ◌⊎◌, List, [], ◌∷◌, ◌++◌, length, take, drop, get_or, Less, Equal, Greater, nat_cmp, refl, sym, ap, ◌∙◌, subst, arith, append_assoc}
use Rattle.std.proofs.lemmas.Bool.{eq-eqb, ne_eqb, lt-ltb, le-ltb, or_left}
use Rattle.std.proofs.lemmas.Bool.Decides.{nat_tests}
use Rattle.std.proofs.lemmas.List.{append-nil, take_all}
use Rattle.std.specs.List.{AllByRecursion}
use Rattle.hv_member.specs.Sets.{is_in, IsRising, inserted, joined, common, minus}
use Rattle.hv_member.proofs.MembershipLemmas.{is_in-first, filter-agree}
use Rattle.hv_member.proofs.RisingLemmas.{all-in, all-from, first_once, not_below_first}

-- ---- what `cmp` tells of two numbers

pub less-order : (x y : ℕ) → Less ≡ nat_cmp x y → x < y
less-order x y e = grind (arith, nat_tests)

pub greater-order : (x y : ℕ) → Greater ≡ nat_cmp x y → y < x
greater-order x y e = grind (arith, nat_tests)

pub equal-order : (x y : ℕ) → Equal ≡ nat_cmp x y → x ≡ y
equal-order x y e = grind (arith, nat_tests)

-- ---- one step of each combination

-- a number that isn't in the first list matters to no difference and no common part
in_without : (y : ℕ) (ys xs : List ℕ) → is_in y xs ≡ false → (z : ℕ) → is_in z xs ≡ true → is_in z (y ∷ ys) ≡ is_in z ys
in_without y ys xs none z there = rw (ne_eqb z y (λ same. clash (ap (λ t. is_in t xs) same)))
  where
    clash : is_in z xs ≡ is_in y xs → ⊥
    clash e = Rattle.std.proofs.lemmas.Bool.both_ways (is_in y xs) none (sym e ∙ there)

common-skip_right : (y : ℕ) (ys xs : List ℕ) → is_in y xs ≡ false → common xs (y ∷ ys) ≡ common xs ys
common-skip_right y ys xs none = filter-agree (λ z. is_in z (y ∷ ys)) (λ z. is_in z ys) xs (in_without y ys xs none)

pub minus-skip_right : (y : ℕ) (ys xs : List ℕ) → is_in y xs ≡ false → minus xs (y ∷ ys) ≡ minus xs ys
minus-skip_right y ys xs none =
    filter-agree (λ z. not (is_in z (y ∷ ys))) (λ z. not (is_in z ys)) xs (λ z there. ap not (in_without y ys xs none z there))

pub common-less : (x y : ℕ) (xs ys : List ℕ) → IsRising (x ∷ xs) → IsRising (y ∷ ys) → x < y
    → common (x ∷ xs) (y ∷ ys) ≡ common xs (y ∷ ys)
common-less x y xs ys one two less = rw (not_below_first x y ys two less)

pub common-greater : (x y : ℕ) (xs ys : List ℕ) → IsRising (x ∷ xs) → IsRising (y ∷ ys) → y < x
    → common (x ∷ xs) (y ∷ ys) ≡ common (x ∷ xs) ys
common-greater x y xs ys one two less = common-skip_right y ys (x ∷ xs) (not_below_first y x xs one less)

pub common-equal : (x : ℕ) (xs ys : List ℕ) → IsRising (x ∷ xs) → IsRising (x ∷ ys) → common (x ∷ xs) (x ∷ ys) ≡ x ∷ common xs ys
common-equal x xs ys one two =
    rw (is_in-first x ys) (ap (λ t. x ∷ t) (common-skip_right x ys xs (first_once x xs one)))

pub minus-less : (x y : ℕ) (xs ys : List ℕ) → IsRising (x ∷ xs) → IsRising (y ∷ ys) → x < y
    → minus (x ∷ xs) (y ∷ ys) ≡ x ∷ minus xs (y ∷ ys)
minus-less x y xs ys one two less = rw (not_below_first x y ys two less)

pub minus-greater : (x y : ℕ) (xs ys : List ℕ) → IsRising (x ∷ xs) → IsRising (y ∷ ys) → y < x
    → minus (x ∷ xs) (y ∷ ys) ≡ minus (x ∷ xs) ys
minus-greater x y xs ys one two less = minus-skip_right y ys (x ∷ xs) (not_below_first y x xs one less)

pub minus-equal : (x : ℕ) (xs ys : List ℕ) → IsRising (x ∷ xs) → IsRising (x ∷ ys) → minus (x ∷ xs) (x ∷ ys) ≡ minus xs ys
minus-equal x xs ys one two = rw (is_in-first x ys) (minus-skip_right x ys xs (first_once x xs one))

-- a number below all others is the first of the union
joined-first : (x : ℕ) (xs ys : List ℕ) → AllByRecursion (λ y. x < y) ys → joined (x ∷ xs) ys ≡ x ∷ joined xs ys
joined-first x xs [] above = refl
joined-first x xs (y ∷ ys) above = rw (lt-ltb x y above.0) (joined-first x (inserted y xs) ys above.1)

pub joined-less : (x y : ℕ) (xs ys : List ℕ) → IsRising (x ∷ xs) → IsRising (y ∷ ys) → x < y
    → joined (x ∷ xs) (y ∷ ys) ≡ x ∷ joined xs (y ∷ ys)
joined-less x y xs ys one two less =
    joined-first x xs (y ∷ ys) (less, all-from (λ z. x < z) ys (λ z there. let far : y < z = all-in (λ w. y < w) ys two.0 z there in omega arith))

pub joined-greater : (x y : ℕ) (xs ys : List ℕ) → IsRising (x ∷ xs) → IsRising (y ∷ ys) → y < x
    → joined (x ∷ xs) (y ∷ ys) ≡ y ∷ joined (x ∷ xs) ys
joined-greater x y xs ys one two less =
    rw (le-ltb x y (omega arith), ne_eqb y x (λ same. omega arith)) (joined-first y (x ∷ xs) ys two.0)

pub joined-equal : (x : ℕ) (xs ys : List ℕ) → IsRising (x ∷ xs) → IsRising (x ∷ ys) → joined (x ∷ xs) (x ∷ ys) ≡ x ∷ joined xs ys
joined-equal x xs ys one two = rw (le-ltb x x (omega arith), eq-eqb x x refl) (joined-first x xs ys two.0)

-- ---- where one list has ended

pub common-none : (xs : List ℕ) → common xs [] ≡ []
common-none [] = refl
common-none (x ∷ xs) = common-none xs

pub minus-none : (xs : List ℕ) → minus xs [] ≡ xs
minus-none [] = refl
minus-none (x ∷ xs) = ap (λ t. x ∷ t) (minus-none xs)

pub joined-none : (ys : List ℕ) → IsRising ys → joined [] ys ≡ ys
joined-none [] rising = refl
joined-none (y ∷ ys) rising = joined-first y [] ys rising.0 ∙ ap (λ t. y ∷ t) (joined-none ys rising.1)

-- ---- the loop over both lists

-- what follows the first, as a slice pattern lends it
abbrev pub rest_of : List ℕ → List ℕ
rest_of xs = take (length xs - 1) (drop 1 xs)

pub rest-cons : (x : ℕ) (xs : List ℕ) → rest_of (x ∷ xs) ≡ xs
rest-cons x xs = take_all (suc (length xs) - 1) xs (omega arith)

-- what is combined so far, and what is left of both lists
pub record Merging (combine : List ℕ → List ℕ → List ℕ) (left right done xs ys : List ℕ) : Type 0 where
  pub rising_left : IsRising xs
  pub rising_right : IsRising ys
  pub total : combine left right ≡ done ++ combine xs ys

module _ (combine : List ℕ → List ℕ → List ℕ) (left right done : List ℕ) where
  -- the first of the left list is passed over
  pub drop_left : ((x y : ℕ) (xs ys : List ℕ) → IsRising (x ∷ xs) → IsRising (y ∷ ys) → x < y → combine (x ∷ xs) (y ∷ ys) ≡ combine xs (y ∷ ys))
      → (xs ys : List ℕ) → 0 < length xs → 0 < length ys → Less ≡ nat_cmp (get_or xs 0 0) (get_or ys 0 0)
      → Merging combine left right done xs ys → Merging combine left right done (rest_of xs) ys
  drop_left rule [] ys some_left some_right order so_far = absurd (omega arith)
  drop_left rule (x ∷ xs) [] some_left some_right order so_far = absurd (omega arith)
  drop_left rule (x ∷ xs) (y ∷ ys) some_left some_right order so_far =
      rw (rest-cons x xs) (record {
        rising_left = so_far.rising_left.1;
        rising_right = so_far.rising_right;
        total = so_far.total ∙ ap (λ t. done ++ t) (rule x y xs ys so_far.rising_left so_far.rising_right (less-order x y order));
      })

  -- or kept
  pub keep_left : ((x y : ℕ) (xs ys : List ℕ) → IsRising (x ∷ xs) → IsRising (y ∷ ys) → x < y → combine (x ∷ xs) (y ∷ ys) ≡ x ∷ combine xs (y ∷ ys))
      → (xs ys more : List ℕ) → 0 < length xs → 0 < length ys → Less ≡ nat_cmp (get_or xs 0 0) (get_or ys 0 0)
      → more ≡ done ++ get_or xs 0 0 ∷ [] → Merging combine left right done xs ys → Merging combine left right more (rest_of xs) ys
  keep_left rule [] ys more some_left some_right order pushed so_far = absurd (omega arith)
  keep_left rule (x ∷ xs) [] more some_left some_right order pushed so_far = absurd (omega arith)
  keep_left rule (x ∷ xs) (y ∷ ys) more some_left some_right order pushed so_far =
      rw (rest-cons x xs, pushed) (record {
        rising_left = so_far.rising_left.1;
        rising_right = so_far.rising_right;
        total =
            so_far.total ∙ ap (λ t. done ++ t) (rule x y xs ys so_far.rising_left so_far.rising_right (less-order x y order))
            ∙ sym (append_assoc done (x ∷ []) (combine xs (y ∷ ys)));
      })

  -- the first of the right list is passed over
  pub drop_right : ((x y : ℕ) (xs ys : List ℕ) → IsRising (x ∷ xs) → IsRising (y ∷ ys) → y < x → combine (x ∷ xs) (y ∷ ys) ≡ combine (x ∷ xs) ys)
      → (xs ys : List ℕ) → 0 < length xs → 0 < length ys → Greater ≡ nat_cmp (get_or xs 0 0) (get_or ys 0 0)
      → Merging combine left right done xs ys → Merging combine left right done xs (rest_of ys)
  drop_right rule [] ys some_left some_right order so_far = absurd (omega arith)
  drop_right rule (x ∷ xs) [] some_left some_right order so_far = absurd (omega arith)
  drop_right rule (x ∷ xs) (y ∷ ys) some_left some_right order so_far =
      rw (rest-cons y ys) (record {
        rising_left = so_far.rising_left;
        rising_right = so_far.rising_right.1;
        total = so_far.total ∙ ap (λ t. done ++ t) (rule x y xs ys so_far.rising_left so_far.rising_right (greater-order x y order));
      })

  -- or kept
  pub keep_right : ((x y : ℕ) (xs ys : List ℕ) → IsRising (x ∷ xs) → IsRising (y ∷ ys) → y < x → combine (x ∷ xs) (y ∷ ys) ≡ y ∷ combine (x ∷ xs) ys)
      → (xs ys more : List ℕ) → 0 < length xs → 0 < length ys → Greater ≡ nat_cmp (get_or xs 0 0) (get_or ys 0 0)
      → more ≡ done ++ get_or ys 0 0 ∷ [] → Merging combine left right done xs ys → Merging combine left right more xs (rest_of ys)
  keep_right rule [] ys more some_left some_right order pushed so_far = absurd (omega arith)
  keep_right rule (x ∷ xs) [] more some_left some_right order pushed so_far = absurd (omega arith)
  keep_right rule (x ∷ xs) (y ∷ ys) more some_left some_right order pushed so_far =
      rw (rest-cons y ys, pushed) (record {
        rising_left = so_far.rising_left;
        rising_right = so_far.rising_right.1;
        total =
            so_far.total ∙ ap (λ t. done ++ t) (rule x y xs ys so_far.rising_left so_far.rising_right (greater-order x y order))
            ∙ sym (append_assoc done (y ∷ []) (combine (x ∷ xs) ys));
      })

  both_rest : (x y : ℕ) (xs ys more : List ℕ) → Merging combine left right done (x ∷ xs) (y ∷ ys)
      → done ++ combine (x ∷ xs) (y ∷ ys) ≡ more ++ combine xs ys → Merging combine left right more (rest_of (x ∷ xs)) (rest_of (y ∷ ys))
  both_rest x y xs ys more so_far same =
      rw (rest-cons x xs, rest-cons y ys) (record {
        rising_left = so_far.rising_left.1;
        rising_right = so_far.rising_right.1;
        total = so_far.total ∙ same;
      })

  -- the first of both lists is passed over
  pub drop_both : ((x : ℕ) (xs ys : List ℕ) → IsRising (x ∷ xs) → IsRising (x ∷ ys) → combine (x ∷ xs) (x ∷ ys) ≡ combine xs ys)
      → (xs ys : List ℕ) → 0 < length xs → 0 < length ys → Equal ≡ nat_cmp (get_or xs 0 0) (get_or ys 0 0)
      → Merging combine left right done xs ys → Merging combine left right done (rest_of xs) (rest_of ys)
  drop_both rule [] ys some_left some_right order so_far = absurd (omega arith)
  drop_both rule (x ∷ xs) [] some_left some_right order so_far = absurd (omega arith)
  drop_both rule (x ∷ xs) (y ∷ ys) some_left some_right order so_far =
      let same : y ≡ x = sym (equal-order x y order) in
      both_rest x y xs ys done so_far
      (ap (λ t. done ++ t) (ap (λ z. combine (x ∷ xs) (z ∷ ys)) same ∙ rule x xs ys so_far.rising_left (subst (λ z. IsRising (z ∷ ys)) same so_far.rising_right)))

  -- or kept
  pub keep_both : ((x : ℕ) (xs ys : List ℕ) → IsRising (x ∷ xs) → IsRising (x ∷ ys) → combine (x ∷ xs) (x ∷ ys) ≡ x ∷ combine xs ys)
      → (xs ys more : List ℕ) → 0 < length xs → 0 < length ys → Equal ≡ nat_cmp (get_or xs 0 0) (get_or ys 0 0)
      → more ≡ done ++ get_or xs 0 0 ∷ [] → Merging combine left right done xs ys → Merging combine left right more (rest_of xs) (rest_of ys)
  keep_both rule [] ys more some_left some_right order pushed so_far = absurd (omega arith)
  keep_both rule (x ∷ xs) [] more some_left some_right order pushed so_far = absurd (omega arith)
  keep_both rule (x ∷ xs) (y ∷ ys) more some_left some_right order pushed so_far =
      let same : y ≡ x = sym (equal-order x y order) in
      both_rest x y xs ys more so_far
      (ap (λ t. done ++ t) (ap (λ z. combine (x ∷ xs) (z ∷ ys)) same ∙ rule x xs ys so_far.rising_left (subst (λ z. IsRising (z ∷ ys)) same so_far.rising_right))
      ∙ sym (append_assoc done (x ∷ []) (combine xs ys)) ∙ ap (λ t. t ++ combine xs ys) (sym pushed))

-- ---- the end, once one of the lists has ended

abbrev pub OneEnded : List ℕ → List ℕ → Type 0
OneEnded xs ys = (length xs < 1) ⊎ (length ys < 1)

common-ended : (xs ys : List ℕ) → OneEnded xs ys → common xs ys ≡ []
common-ended [] ys one = refl
common-ended (x ∷ xs) [] one = common-none (x ∷ xs)
common-ended (x ∷ xs) (y ∷ ys) one = absurd (omega arith)

minus-ended : (xs ys : List ℕ) → OneEnded xs ys → minus xs ys ≡ xs
minus-ended [] ys one = refl
minus-ended (x ∷ xs) [] one = minus-none (x ∷ xs)
minus-ended (x ∷ xs) (y ∷ ys) one = absurd (omega arith)

joined-ended : (xs ys : List ℕ) → IsRising ys → OneEnded xs ys → joined xs ys ≡ xs ++ ys
joined-ended [] ys rising one = joined-none ys rising
joined-ended (x ∷ xs) [] rising one = sym (append-nil (x ∷ xs))
joined-ended (x ∷ xs) (y ∷ ys) rising one = absurd (omega arith)

-- what is in both is found
pub common-result : (left right done xs ys : List ℕ) → OneEnded xs ys → Merging common left right done xs ys → done ≡ common left right
common-result left right done xs ys one so_far =
    sym (so_far.total ∙ ap (λ t. done ++ t) (common-ended xs ys one) ∙ append-nil done)

-- of the difference, what is left of the first list is still to come
pub minus-result : (left right done xs ys all : List ℕ) → OneEnded xs ys → all ≡ done ++ xs → Merging minus left right done xs ys
    → all ≡ minus left right
minus-result left right done xs ys all one last so_far =
    last ∙ sym (so_far.total ∙ ap (λ t. done ++ t) (minus-ended xs ys one))

-- of the union, what is left of either
pub joined-result : (left right done xs ys more all : List ℕ) → OneEnded xs ys → more ≡ done ++ xs → all ≡ more ++ ys
    → Merging joined left right done xs ys → all ≡ joined left right
joined-result left right done xs ys more all one first second so_far =
    second ∙ ap (λ t. t ++ ys) first ∙ append_assoc done xs ys
    ∙ sym (so_far.total ∙ ap (λ t. done ++ t) (joined-ended xs ys so_far.rising_right one))
