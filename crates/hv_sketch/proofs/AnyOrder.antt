-- What holds where any two blocks at a list's end may change places holds in any order of the list.
use Rattle.std.proofs.Common.{◌≡◌, ◌<◌, ◌∷◌, ◌++◌, [], ℕ, zero, suc, List, refl, sym, ap, subst, length, get_or, arith, append_assoc, length-append, inl, inr, ◌∙◌}
use Rattle.std.specs.Prelude.{IsPermutation}
use Rattle.std.specs.List.{swap}
use Rattle.std.proofs.lemmas.Bool.{cases_order}
use Rattle.std.proofs.lemmas.List.Edits.{swap_is}
use Rattle.std.proofs.lemmas.List.Sorted.{IsPermutation-keeps}
use Rattle.std.proofs.Math.ListN.{set}
use Rattle.std.proofs.Math.Seq.{get_or-append_seam, set-append_seam}

-- a list with two elements told, and its beginning up to the second of them
pair : {X : Type 0} → List X → List X → List X → X → X → List X
pair a b c x y = a ++ x ∷ (b ++ y ∷ c)

upto : {X : Type 0} → List X → List X → X → List X
upto a b x = a ++ x ∷ b

-- a list has an element at a place
record HasOne {X : Type 0} (xs : List X) (j : ℕ) : Type 0 where
  front : List X
  y : X
  back : List X
  is : xs ≡ front ++ y ∷ back
  place : j ≡ length front

-- it has one at each of two places, the first before the second
record HasTwo {X : Type 0} (xs : List X) (i j : ℕ) : Type 0 where
  front : List X
  middle : List X
  back : List X
  x : X
  y : X
  is : xs ≡ pair front middle back x y
  first : i ≡ length front
  second : j ≡ length (upto front middle x)

module _ {X : Type 0} where
  one_of : (xs : List X) (j : ℕ) → j < length xs → HasOne xs j
  one_of [] j within = absurd (omega arith)
  one_of (x ∷ xs) zero within = record { front = []; y = x; back = xs; is = refl; place = refl }
  one_of (x ∷ xs) (suc j) within =
      let more = one_of xs j (omega arith) in
      record { front = x ∷ more.front; y = more.y; back = more.back; is = ap (λ l. x ∷ l) more.is; place = ap suc more.place }

  two_of : (xs : List X) (i j : ℕ) → i < j → j < length xs → HasTwo xs i j
  unfolding pair upto
  two_of [] i j before within = absurd (omega arith)
  two_of (x ∷ xs) i zero before within = absurd (omega arith)
  two_of (x ∷ xs) zero (suc j) before within =
      let more = one_of xs j (omega arith) in
      record {
        front = [];
        middle = more.front;
        back = more.back;
        x = x;
        y = more.y;
        is = ap (λ l. x ∷ l) more.is;
        first = refl;
        second = ap suc more.place;
      }
  two_of (x ∷ xs) (suc i) (suc j) before within =
      let more = two_of xs i j (omega arith) (omega arith) in
      record {
        front = x ∷ more.front;
        middle = more.middle;
        back = more.back;
        x = more.x;
        y = more.y;
        is = ap (λ l. x ∷ l) more.is;
        first = ap suc more.first;
        second = ap suc more.second;
      }

  module _ (a b c : List X) (x y : X) where
    pair-upto : pair a b c x y ≡ upto a b x ++ y ∷ c
    unfolding pair upto
    pair-upto = sym (append_assoc a (x ∷ b) (y ∷ c))

    first_get : get_or (pair a b c x y) (length a) x ≡ x
    unfolding pair
    first_get = get_or-append_seam a x (b ++ y ∷ c) x

    second_get : get_or (pair a b c x y) (length (upto a b x)) x ≡ y
    second_get = ap (λ l. get_or l (length (upto a b x)) x) pair-upto ∙ get_or-append_seam (upto a b x) y c x

    first_set : (z : X) → set (pair a b c x y) (length a) z ≡ pair a b c z y
    unfolding pair
    first_set z = set-append_seam a x (b ++ y ∷ c) z

    second_set : (z : X) → set (pair a b c x y) (length (upto a b x)) z ≡ pair a b c x z
    unfolding pair upto
    second_set z =
        ap (λ l. set l (length (a ++ x ∷ b)) z) pair-upto ∙ set-append_seam (a ++ x ∷ b) y c z ∙ append_assoc a (x ∷ b) (z ∷ c)

    first_below : length a < length (pair a b c x y)
    unfolding pair
    first_below = simp length-append (omega arith)

    second_below : length (upto a b x) < length (pair a b c x y)
    second_below = rw pair-upto (simp length-append (omega arith))

  upto-length : (a b : List X) (x y : X) → length (upto a b x) ≡ length (upto a b y)
  unfolding upto
  upto-length a b x y = simp length-append

  -- the two elements change places, named in either order
  swapped_up : (a b c : List X) (x y : X) → swap (pair a b c x y) (length a) (length (upto a b x)) ≡ pair a b c y x
  swapped_up a b c x y =
      let both = swap_is (pair a b c x y) (length a) (length (upto a b x)) x (first_below a b c x y) (second_below a b c x y) in
      let first = first_get a b c x y in
      let second = second_get a b c x y in
      let once = first_set a b c x y y in
      let same = upto-length a b x y in
      let twice = second_set a b c y y x in
      cc

  swapped_down : (a b c : List X) (x y : X) → swap (pair a b c x y) (length (upto a b x)) (length a) ≡ pair a b c y x
  swapped_down a b c x y =
      let both = swap_is (pair a b c x y) (length (upto a b x)) (length a) x (second_below a b c x y) (first_below a b c x y) in
      let first = first_get a b c x y in
      let second = second_get a b c x y in
      let once = second_set a b c x y x in
      let twice = first_set a b c x x y in
      cc

  -- an element changes places with itself
  swapped_same : (a c : List X) (x : X) → swap (a ++ x ∷ c) (length a) (length a) ≡ a ++ x ∷ c
  swapped_same a c x =
      let below : length a < length (a ++ x ∷ c) = simp length-append (omega arith) in
      let both = swap_is (a ++ x ∷ c) (length a) (length a) x below below in
      let got = get_or-append_seam a x c x in
      let once = set-append_seam a x c x in
      cc

  module _ (P : List X → Type 0) (move : (a b c : List X) → P (a ++ b ++ c) → P (a ++ c ++ b)) where
    -- four moves exchange two elements
    exchange : (a b c : List X) (x y : X) → P (pair a b c x y) → P (pair a b c y x)
    unfolding pair
    exchange a b c x y h =
        let one = move a (x ∷ b) (y ∷ c) (simp append_assoc h) in
        let two = move (a ++ y ∷ []) c (x ∷ b) (simp append_assoc (simp append_assoc at one)) in
        let three = move (a ++ y ∷ []) (x ∷ []) (b ++ c) (simp append_assoc (simp append_assoc at two)) in
        let four = move (a ++ y ∷ [] ++ b) c (x ∷ []) (simp append_assoc (simp append_assoc at three)) in
        simp append_assoc at four

    -- any two places may be exchanged
    swap_up : (xs : List X) (i j : ℕ) → HasTwo xs i j → P xs → P (swap xs i j)
    swap_up xs i j two h =
        let told = swapped_up two.front two.middle two.back two.x two.y in
        let is : pair two.front two.middle two.back two.y two.x ≡ swap xs i j = cc in
        subst P is (exchange two.front two.middle two.back two.x two.y (subst P two.is h))

    swap_down : (xs : List X) (i j : ℕ) → HasTwo xs j i → P xs → P (swap xs i j)
    swap_down xs i j two h =
        let told = swapped_down two.front two.middle two.back two.x two.y in
        let is : pair two.front two.middle two.back two.y two.x ≡ swap xs i j = cc in
        subst P is (exchange two.front two.middle two.back two.x two.y (subst P two.is h))

    swap_same : (xs : List X) (j : ℕ) → HasOne xs j → P xs → P (swap xs j j)
    swap_same xs j one h =
        let told = swapped_same one.front one.back one.y in
        let is : xs ≡ swap xs j j = cc in
        subst P is h

    swap_any : (xs : List X) (i j : ℕ) → i < length xs → j < length xs → P xs → P (swap xs i j)
    swap_any xs i j low high h =
        elim (cases_order i j) [
          | inl same ↦ rw same (swap_same xs j (one_of xs j high) h)
          | inr apart ↦
              elim apart [ inl up ↦ swap_up xs i j (two_of xs i j up high) h | inr down ↦ swap_down xs i j (two_of xs j i down low) h ]
        ]

    -- and so any order may be taken
    pub in_any_order : (xs ys : List X) → IsPermutation xs ys → P xs → P ys
    in_any_order xs ys order h = IsPermutation-keeps xs P h swap_any ys order
