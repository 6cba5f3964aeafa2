-- The rising list of joined lists, and its k least elements: they come from the k least of the pieces.
use Rattle.std.proofs.Common.{◌≡◌, ◌≤◌, ℕ, zero, suc, List, [], ◌∷◌, ◌++◌, refl, sym, ap, subst, length, take, arith, ◌∙◌}
use Rattle.std.proofs.lemmas.List.{take-take}
use Rattle.std.specs.Cmp.{IsTotalOrder}
use Rattle.std.specs.List.{AllByRecursion}
use Rattle.std.specs.Ordering.{ordering_reverse, match_ordering}
use Rattle.std.specs.declared.cmp.Ordering.{Ordering}
use Rattle.std.specs.declared.cmp.Ordering.TheVariants.{Less, Equal, Greater}
use Rattle.std.proofs.lemmas.Cmp.{alike_right, tied_back}
use Rattle.hv_sketch.specs.Rising.{IsAbove, IsRising, JoinsTies, put, put_all, rising}

-- how an element of a rising list compares with one that is put into it
module _ {X : Type 0} (cmp : X → X → Ordering) (join : X → X → X) where
  pub put-below : (x y : X) (ys : List X) → cmp x y ≡ Less → put cmp join x (y ∷ ys) ≡ x ∷ y ∷ ys
  put-below x y ys e = rw e refl

  pub put-tied : (x y : X) (ys : List X) → cmp x y ≡ Equal → put cmp join x (y ∷ ys) ≡ join x y ∷ ys
  put-tied x y ys e = rw e refl

  pub put-past : (x y : X) (ys : List X) → cmp x y ≡ Greater → put cmp join x (y ∷ ys) ≡ y ∷ put cmp join x ys
  put-past x y ys e = rw e refl

  -- an element is put after those below it
  pub put-after : (x : X) (front back : List X) → AllByRecursion (λ y. cmp x y ≡ Greater) front
      → put cmp join x (front ++ back) ≡ front ++ put cmp join x back
  put-after x [] back below = refl
  put-after x (y ∷ front) back below =
      put-past x y (front ++ back) below.0 ∙ ap (λ l. y ∷ l) (put-after x front back below.1)

  -- and before those above it
  pub put-first : (x : X) (ys : List X) → IsAbove cmp x ys → put cmp join x ys ≡ x ∷ ys
  put-first x [] above = refl
  put-first x (y ∷ ys) above = put-below x y ys above

  -- an element put into a list makes it no shorter
  pub put-longer : (x : X) (ys : List X) → length ys ≤ length (put cmp join x ys)
  put-longer x [] = omega arith
  put-longer x (y ∷ ys) = by (cmp x y) (put-longer x ys)
    where
      by : (o : Ordering) → length ys ≤ length (put cmp join x ys)
          → length (y ∷ ys) ≤ length (match_ordering o (x ∷ y ∷ ys) (join x y ∷ ys) (y ∷ put cmp join x ys))
      by Less more = omega arith
      by Equal more = omega arith
      by Greater more = omega arith

  pub put_all-longer : (xs ys : List X) → length ys ≤ length (put_all cmp join xs ys)
  put_all-longer [] ys = omega arith
  put_all-longer (x ∷ xs) ys = omega (arith, put_all-longer xs ys, put-longer x (put_all cmp join xs ys))

  pub put_all-join : (a b ys : List X) → put_all cmp join (a ++ b) ys ≡ put_all cmp join a (put_all cmp join b ys)
  put_all-join [] b ys = refl
  put_all-join (x ∷ a) b ys = ap (put cmp join x) (put_all-join a b ys)

-- a list's first elements with those of what is left out behind them
take-cons : {X : Type 0} (k : ℕ) (y : X) (ys : List X) → take k (y ∷ ys) ≡ take k (y ∷ take k ys)
take-cons zero y ys = refl
take-cons (suc k) y ys = ap (λ l. y ∷ l) (sym (take-take k (suc k) ys (omega arith)))

module _ {X : Type 0} (cmp : X → X → Ordering) (join : X → X → X) where
  -- the k least after a put are told by the k least before it
  pub take-put : (k : ℕ) (x : X) (ys : List X) → take k (put cmp join x ys) ≡ take k (put cmp join x (take k ys))
  take-put zero x ys = refl
  take-put (suc k) x [] = refl
  take-put (suc k) x (y ∷ ys) = by (cmp x y) (take-put k x ys)
    where
      by : (o : Ordering) → take k (put cmp join x ys) ≡ take k (put cmp join x (take k ys))
          → take (suc k) (match_ordering o (x ∷ y ∷ ys) (join x y ∷ ys) (y ∷ put cmp join x ys))
          ≡ take (suc k) (match_ordering o (x ∷ y ∷ take k ys) (join x y ∷ take k ys) (y ∷ put cmp join x (take k ys)))
      by Less more = ap (λ l. x ∷ l) (take-cons k y ys)
      by Equal more = ap (λ l. join x y ∷ l) (sym (take-take k k ys (omega arith)))
      by Greater more = ap (λ l. y ∷ l) more

  pub take-put_all : (k : ℕ) (xs ys : List X) → take k (put_all cmp join xs ys) ≡ take k (put_all cmp join xs (take k ys))
  take-put_all k [] ys = sym (take-take k k ys (omega arith))
  take-put_all k (x ∷ xs) ys =
      take-put k x (put_all cmp join xs ys) ∙ ap (λ l. take k (put cmp join x l)) (take-put_all k xs ys)
      ∙ sym (take-put k x (put_all cmp join xs (take k ys)))

module _ {X : Type 0} (cmp : X → X → Ordering) (join : X → X → X) (order : IsTotalOrder cmp) (joins : JoinsTies cmp join) where
  back-Less : (x y : X) → cmp x y ≡ Less → cmp y x ≡ Greater
  back-Less x y e = order.antisymm y x ∙ ap ordering_reverse e

  back-Greater : (x y : X) → cmp x y ≡ Greater → cmp y x ≡ Less
  back-Greater x y e = order.antisymm y x ∙ ap ordering_reverse e

  -- an element compares with two that tie, joined, as with the first, and as with the second
  past-join : (x y z : X) → cmp y z ≡ Equal → cmp x (join y z) ≡ cmp x y
  past-join x y z tied =
      order.antisymm x (join y z) ∙ ap ordering_reverse (joins.same y z x tied) ∙ sym (order.antisymm x y)

  -- two elements may be put into a list in either order
  turn-less : (x y : X) (zs : List X) → cmp x y ≡ Less → put cmp join x (put cmp join y zs) ≡ put cmp join y (put cmp join x zs)
  turn-less x y [] less = put-below cmp join x y [] less ∙ sym (put-past cmp join y x [] (back-Less x y less))
  turn-less x y (z ∷ zs) less = by (cmp y z) refl (cmp x z) refl (turn-less x y zs less)
    where
      later : (rest : List X) → put cmp join y (x ∷ rest) ≡ x ∷ put cmp join y rest
      later rest = put-past cmp join y x rest (back-Less x y less)

      by : (o : Ordering) → cmp y z ≡ o → (p : Ordering) → cmp x z ≡ p
          → put cmp join x (put cmp join y zs) ≡ put cmp join y (put cmp join x zs)
          → put cmp join x (put cmp join y (z ∷ zs)) ≡ put cmp join y (put cmp join x (z ∷ zs))
      by Less first p second more =
          ap (put cmp join x) (put-below cmp join y z zs first) ∙ put-below cmp join x y (z ∷ zs) less
          ∙ ap (λ l. x ∷ l) (sym (put-below cmp join y z zs first)) ∙ sym (later _)
          ∙ ap (put cmp join y) (sym (put-below cmp join x z zs (order.trans x y z less first)))
      by Equal first p second more =
          ap (put cmp join x) (put-tied cmp join y z zs first) ∙ put-below cmp join x (join y z) zs (past-join x y z first ∙ less)
          ∙ ap (λ l. x ∷ l) (sym (put-tied cmp join y z zs first)) ∙ sym (later _)
          ∙ ap (put cmp join y) (sym (put-below cmp join x z zs (sym (alike_right order y z x first) ∙ less)))
      by Greater first Less second more =
          ap (put cmp join x) (put-past cmp join y z zs first) ∙ put-below cmp join x z (put cmp join y zs) second
          ∙ ap (λ l. x ∷ l) (sym (put-past cmp join y z zs first)) ∙ sym (later _)
          ∙ ap (put cmp join y) (sym (put-below cmp join x z zs second))
      by Greater first Equal second more =
          ap (put cmp join x) (put-past cmp join y z zs first) ∙ put-tied cmp join x z (put cmp join y zs) second
          ∙ sym (put-past cmp join y (join x z) zs (past-join y x z second ∙ back-Less x y less))
          ∙ ap (put cmp join y) (sym (put-tied cmp join x z zs second))
      by Greater first Greater second more =
          ap (put cmp join x) (put-past cmp join y z zs first) ∙ put-past cmp join x z (put cmp join y zs) second
          ∙ ap (λ l. z ∷ l) more
          ∙ sym (put-past cmp join y z (put cmp join x zs) first)
          ∙ ap (put cmp join y) (sym (put-past cmp join x z zs second))

  -- one of two that tie is put into a list as both, joined
  put-joined : (x y : X) (zs : List X) → cmp x y ≡ Equal → put cmp join (join x y) zs ≡ put cmp join x (put cmp join y zs)
  put-joined x y [] tied = sym (put-tied cmp join x y [] tied)
  put-joined x y (z ∷ zs) tied = by (cmp y z) refl (put-joined x y zs tied)
    where
      both : (o : Ordering) → cmp y z ≡ o → cmp (join x y) z ≡ o
      both o e = joins.same x y z tied ∙ order.congr x y z tied ∙ e

      by : (o : Ordering) → cmp y z ≡ o → put cmp join (join x y) zs ≡ put cmp join x (put cmp join y zs)
          → put cmp join (join x y) (z ∷ zs) ≡ put cmp join x (put cmp join y (z ∷ zs))
      by Less e more =
          put-below cmp join (join x y) z zs (both Less e) ∙ sym (put-tied cmp join x y (z ∷ zs) tied)
          ∙ ap (put cmp join x) (sym (put-below cmp join y z zs e))
      by Equal e more =
          put-tied cmp join (join x y) z zs (both Equal e) ∙ ap (λ w. w ∷ zs) (sym (joins.regroup x y z tied e))
          ∙ sym (put-tied cmp join x (join y z) zs (past-join x y z e ∙ tied))
          ∙ ap (put cmp join x) (sym (put-tied cmp join y z zs e))
      by Greater e more =
          put-past cmp join (join x y) z zs (both Greater e) ∙ ap (λ l. z ∷ l) more
          ∙ sym (put-past cmp join x z (put cmp join y zs) (order.congr x y z tied ∙ e))
          ∙ ap (put cmp join x) (sym (put-past cmp join y z zs e))

  pub put-turn : (x y : X) (zs : List X) → put cmp join x (put cmp join y zs) ≡ put cmp join y (put cmp join x zs)
  put-turn x y zs = by (cmp x y) refl
    where
      by : (o : Ordering) → cmp x y ≡ o → put cmp join x (put cmp join y zs) ≡ put cmp join y (put cmp join x zs)
      by Less e = turn-less x y zs e
      by Equal e =
          sym (put-joined x y zs e) ∙ ap (λ w. put cmp join w zs) (joins.turn x y e)
          ∙ put-joined y x zs (tied_back order x y e)
      by Greater e = sym (turn-less y x zs (back-Greater x y e))

  -- an element may be put in before or after those of a list
  put_all-put : (xs : List X) (y : X) (zs : List X) → put_all cmp join xs (put cmp join y zs) ≡ put cmp join y (put_all cmp join xs zs)
  put_all-put [] y zs = refl
  put_all-put (x ∷ xs) y zs = ap (put cmp join x) (put_all-put xs y zs) ∙ put-turn x y (put_all cmp join xs zs)

  -- and so may the elements of two lists
  put_all-turn : (xs ys zs : List X) → put_all cmp join xs (put_all cmp join ys zs) ≡ put_all cmp join ys (put_all cmp join xs zs)
  put_all-turn [] ys zs = refl
  put_all-turn (x ∷ xs) ys zs = ap (put cmp join x) (put_all-turn xs ys zs) ∙ sym (put_all-put ys x (put_all cmp join xs zs))

  -- the elements of a list with one more put into it
  put-put_all : (x : X) (ys zs : List X) → put_all cmp join (put cmp join x ys) zs ≡ put cmp join x (put_all cmp join ys zs)
  put-put_all x [] zs = refl
  put-put_all x (y ∷ ys) zs = by (cmp x y) refl (put-put_all x ys zs)
    where
      by : (o : Ordering) → cmp x y ≡ o
          → put_all cmp join (put cmp join x ys) zs ≡ put cmp join x (put_all cmp join ys zs)
          → put_all cmp join (put cmp join x (y ∷ ys)) zs ≡ put cmp join x (put_all cmp join (y ∷ ys) zs)
      by Less e more = ap (λ l. put_all cmp join l zs) (put-below cmp join x y ys e)
      by Equal e more = ap (λ l. put_all cmp join l zs) (put-tied cmp join x y ys e) ∙ put-joined x y (put_all cmp join ys zs) e
      by Greater e more =
          ap (λ l. put_all cmp join l zs) (put-past cmp join x y ys e) ∙ ap (put cmp join y) more
          ∙ put-turn y x (put_all cmp join ys zs)

  -- the elements of a list, or of its rising list
  put_all-rising : (xs zs : List X) → put_all cmp join (rising cmp join xs) zs ≡ put_all cmp join xs zs
  put_all-rising [] zs = refl
  put_all-rising (x ∷ xs) zs = put-put_all x (rising cmp join xs) zs ∙ ap (put cmp join x) (put_all-rising xs zs)

  -- the rising list of joined lists is that of their rising lists
  pub rising-join : (a b : List X) → rising cmp join (a ++ b) ≡ put_all cmp join (rising cmp join a) (rising cmp join b)
  rising-join a b = put_all-join cmp join a b [] ∙ sym (put_all-rising a (rising cmp join b))

  -- one element more
  pub rising-more : (xs : List X) (y : X) → rising cmp join (xs ++ y ∷ []) ≡ put cmp join y (rising cmp join xs)
  rising-more xs y = put_all-join cmp join xs (y ∷ []) [] ∙ put_all-put xs y []

  -- two blocks at the end may change places
  pub rising-swap : (a b c : List X) → rising cmp join (a ++ b ++ c) ≡ rising cmp join (a ++ c ++ b)
  rising-swap a b c = three a b c ∙ ap (put_all cmp join a) (put_all-turn b c []) ∙ sym (three a c b)
    where
      three : (a b c : List X) → rising cmp join (a ++ b ++ c) ≡ put_all cmp join a (put_all cmp join b (rising cmp join c))
      three a b c = put_all-join cmp join (a ++ b) c [] ∙ put_all-join cmp join a b (rising cmp join c)

  -- what is above an element is above a lower one
  above-lower : (x y : X) (ys : List X) → cmp x y ≡ Less → IsAbove cmp y ys → IsAbove cmp x ys
  above-lower x y [] less above = tt
  above-lower x y (z ∷ ys) less above = order.trans x y z less above

  above-put : (x y : X) (ys : List X) → cmp x y ≡ Less → IsAbove cmp x ys → IsAbove cmp x (put cmp join y ys)
  above-put x y [] less above = less
  above-put x y (z ∷ ys) less above = by (cmp y z) refl
    where
      by : (o : Ordering) → cmp y z ≡ o → IsAbove cmp x (put cmp join y (z ∷ ys))
      by Less e = subst (IsAbove cmp x) (sym (put-below cmp join y z ys e)) less
      by Equal e = subst (IsAbove cmp x) (sym (put-tied cmp join y z ys e)) (past-join x y z e ∙ less)
      by Greater e = subst (IsAbove cmp x) (sym (put-past cmp join y z ys e)) above

  above-put_all : (x : X) (ys zs : List X) → IsAbove cmp x ys → IsRising cmp ys → IsAbove cmp x zs → IsAbove cmp x (put_all cmp join ys zs)
  above-put_all x [] zs first rises second = second
  above-put_all x (y ∷ ys) zs first rises second =
      above-put x y (put_all cmp join ys zs) first (above-put_all x ys zs (above-lower x y ys first rises.0) rises.1 second)

  put-rises : (x : X) (ys : List X) → IsRising cmp ys → IsRising cmp (put cmp join x ys)
  put-rises x [] rises = (tt, tt)
  put-rises x (y ∷ ys) rises = by (cmp x y) refl (put-rises x ys rises.1)
    where
      joined : cmp x y ≡ Equal → (zs : List X) → IsAbove cmp y zs → IsAbove cmp (join x y) zs
      joined e [] above = tt
      joined e (z ∷ zs) above = joins.same x y z e ∙ order.congr x y z e ∙ above

      by : (o : Ordering) → cmp x y ≡ o → IsRising cmp (put cmp join x ys) → IsRising cmp (put cmp join x (y ∷ ys))
      by Less e more = subst (IsRising cmp) (sym (put-below cmp join x y ys e)) (e, rises)
      by Equal e more = subst (IsRising cmp) (sym (put-tied cmp join x y ys e)) (joined e ys rises.0, rises.1)
      by Greater e more =
          subst (IsRising cmp) (sym (put-past cmp join x y ys e))
          (above-put y x ys (back-Greater x y e) rises.0, more)

  pub rising-rises : (xs : List X) → IsRising cmp (rising cmp join xs)
  rising-rises [] = tt
  rising-rises (x ∷ xs) = put-rises x (rising cmp join xs) (rising-rises xs)

  -- a rising list is its own
  pub rising-same : (xs : List X) → IsRising cmp xs → rising cmp join xs ≡ xs
  rising-same [] rises = refl
  rising-same (x ∷ xs) rises = ap (put cmp join x) (rising-same xs rises.1) ∙ put-first cmp join x xs rises.0

  pub take-rises : (k : ℕ) (xs : List X) → IsRising cmp xs → IsRising cmp (take k xs)
  take-rises zero xs rises = tt
  take-rises (suc k) [] rises = tt
  take-rises (suc k) (x ∷ xs) rises = (above k xs rises.0, take-rises k xs rises.1)
    where
      above : (k : ℕ) (xs : List X) → IsAbove cmp x xs → IsAbove cmp x (take k xs)
      above zero xs up = tt
      above (suc k) [] up = tt
      above (suc k) (y ∷ xs) up = up

  -- of two rising lists, either may be put into the other
  pub put_all-swap : (a b : List X) → IsRising cmp a → IsRising cmp b → put_all cmp join a b ≡ put_all cmp join b a
  put_all-swap a b first second =
      ap (put_all cmp join a) (sym (rising-same b second)) ∙ put_all-turn a b []
      ∙ ap (put_all cmp join b) (rising-same a first)

  -- joining two rising lists by their first elements: the lesser goes first, two that tie are joined
  pub step-less : (x y : X) (a b : List X) → IsRising cmp (x ∷ a) → IsRising cmp (y ∷ b) → cmp x y ≡ Less
      → put_all cmp join (x ∷ a) (y ∷ b) ≡ x ∷ put_all cmp join a (y ∷ b)
  step-less x y a b first second e =
      put-first cmp join x (put_all cmp join a (y ∷ b)) (above-put_all x a (y ∷ b) first.0 first.1 e)

  pub step-greater : (x y : X) (a b : List X) → IsRising cmp (x ∷ a) → IsRising cmp (y ∷ b) → cmp x y ≡ Greater
      → put_all cmp join (x ∷ a) (y ∷ b) ≡ y ∷ put_all cmp join (x ∷ a) b
  step-greater x y a b first second e =
      put_all-swap (x ∷ a) (y ∷ b) first second ∙ step-less y x b a second first (back-Greater x y e)
      ∙ ap (λ l. y ∷ l) (put_all-swap b (x ∷ a) second.1 first)

  pub step-tied : (x y : X) (a b : List X) → IsRising cmp (x ∷ a) → IsRising cmp (y ∷ b) → cmp x y ≡ Equal
      → put_all cmp join (x ∷ a) (y ∷ b) ≡ join x y ∷ put_all cmp join a b
  step-tied x y a b first second e =
      ap (λ l. put cmp join x (put_all cmp join a l)) (sym (put-first cmp join y b second.0))
      ∙ ap (put cmp join x) (put_all-put a y b ∙ put-first cmp join y (put_all cmp join a b) (above-put_all y a b (along a first.0) first.1 second.0))
      ∙ put-tied cmp join x y (put_all cmp join a b) e
    where
      along : (zs : List X) → IsAbove cmp x zs → IsAbove cmp y zs
      along [] above = tt
      along (z ∷ zs) above = sym (order.congr x y z e) ∙ above

  -- two rising lists are no longer than both joined
  pub joined-longer : (a b : List X) → IsRising cmp a → IsRising cmp b
      → (length a ≤ length (put_all cmp join a b)) × (length b ≤ length (put_all cmp join a b))
  joined-longer a b first second =
      (subst (λ l. length a ≤ length l) (put_all-swap b a second first) (put_all-longer cmp join b a), put_all-longer cmp join a b)

  -- the k least of two rising lists joined come from the k least of each
  pub least-joined : (k : ℕ) (a b : List X) → IsRising cmp a → IsRising cmp b
      → take k (put_all cmp join a b) ≡ take k (put_all cmp join (take k a) (take k b))
  least-joined k a b first second =
      let few = take-rises k b second in
      take-put_all cmp join k a b ∙ ap (take k) (put_all-swap a (take k b) first few)
      ∙ take-put_all cmp join k (take k b) a ∙ ap (take k) (put_all-swap (take k b) (take k a) few (take-rises k a first))

  -- the k least elements of a list come from the k least of its pieces
  pub least-of_pieces : (k : ℕ) (a b : List X)
      → take k (rising cmp join (a ++ b)) ≡ take k (rising cmp join (take k (rising cmp join a) ++ take k (rising cmp join b)))
  least-of_pieces k a b =
      ap (take k) (rising-join a b) ∙ least-joined k (rising cmp join a) (rising cmp join b) (rising-rises a) (rising-rises b)
      ∙ ap (take k) (sym (rising-of (take k (rising cmp join a)) (take k (rising cmp join b)) (take-rises k (rising cmp join b) (rising-rises b))))
    where
      rising-of : (s t : List X) → IsRising cmp t → rising cmp join (s ++ t) ≡ put_all cmp join s t
      rising-of s t rises = put_all-join cmp join s t [] ∙ ap (put_all cmp join s) (rising-same t rises)

  -- and by joining those two lists
  pub least-of_joined : (k : ℕ) (a b : List X)
      → take k (rising cmp join (a ++ b)) ≡ take k (put_all cmp join (take k (rising cmp join a)) (take k (rising cmp join b)))
  least-of_joined k a b =
      ap (take k) (rising-join a b) ∙ least-joined k (rising cmp join a) (rising cmp join b) (rising-rises a) (rising-rises b)
