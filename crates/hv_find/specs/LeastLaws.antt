-- The laws of the least of some values: it comes from the least of the pieces, in any order and any grouping.
use Rattle.std.proofs.Common.{◌≡◌, ◌++◌, List, [], ◌∷◌, Bool, true, false, Option, Some, None, refl, sym, ap, ◌∙◌, slice_get}
use Rattle.std.specs.Prelude.{if◌then◌else◌}
use Rattle.std.specs.Cmp.{IsTotalOrder}
use Rattle.std.specs.FinMap.{IsAntisymmetric}
use Rattle.std.specs.Ordering.{is_gt, is_lt, match_ordering, ordering_reverse}
use Rattle.std.specs.declared.cmp.Ordering.{Ordering}
use Rattle.std.specs.declared.cmp.Ordering.TheVariants.{Less, Equal, Greater}
use Rattle.std.proofs.lemmas.Bool.{true≢false}
use Rattle.std.proofs.lemmas.Cmp.{upto}
use Rattle.hv_sketch.specs.Rising.{put, rising}
use Rattle.hv_find.specs.Least.{kept, least_of, lesser}

-- a comparison from the other side
back-less : (o : Ordering) → is_lt (ordering_reverse o) ≡ is_gt o
back-less Less = refl
back-less Equal = refl
back-less Greater = refl

is-less : (o : Ordering) → is_lt o ≡ true → o ≡ Less
is-less Less e = refl
is-less Equal e = absurd (true≢false (sym e))
is-less Greater e = absurd (true≢false (sym e))

is-level : (o : Ordering) → is_lt o ≡ false → is_gt o ≡ false → o ≡ Equal
is-level Less low high = absurd (true≢false low)
is-level Equal low high = refl
is-level Greater low high = absurd (true≢false high)

not-greater : (o : Ordering) → o ≡ Less → is_gt o ≡ false
not-greater o e = rw e refl

module _ {X : Type 0} (cmp : X → X → Ordering) where
  -- the least of a list with one value more
  pub first-put : (x : X) (ys : List X) → slice_get (put cmp kept x ys) 0 ≡ lesser cmp (Some x) (slice_get ys 0)
  first-put x [] = refl
  first-put x (y ∷ ys) = by (cmp x y)
    where
      by : (o : Ordering) → slice_get (match_ordering o (x ∷ y ∷ ys) (y ∷ ys) (y ∷ put cmp kept x ys)) 0 ≡ (if is_lt o then Some x else Some y)
      by Less = refl
      by Equal = refl
      by Greater = refl

  pub is-new : (x y : X) → is_lt (cmp x y) ≡ true → lesser cmp (Some x) (Some y) ≡ Some x
  is-new x y e = rw e refl

  pub is-old : (x y : X) → is_lt (cmp x y) ≡ false → lesser cmp (Some x) (Some y) ≡ Some y
  is-old x y e = rw e refl

  module _ (order : IsTotalOrder cmp) where
    pub back : (x y : X) → is_lt (cmp x y) ≡ is_gt (cmp y x)
    back x y = ap is_lt (order.antisymm x y) ∙ back-less (cmp y x)

    three : (x y z : X) → lesser cmp (lesser cmp (Some x) (Some y)) (Some z) ≡ lesser cmp (Some x) (lesser cmp (Some y) (Some z))
    three x y z = by (is_lt (cmp x y)) refl (is_lt (cmp y z)) refl
      where
        by : (s : Bool) → is_lt (cmp x y) ≡ s → (t : Bool) → is_lt (cmp y z) ≡ t
            → lesser cmp (lesser cmp (Some x) (Some y)) (Some z) ≡ lesser cmp (Some x) (lesser cmp (Some y) (Some z))
        by true p true q =
            ap (λ l. lesser cmp l (Some z)) (is-new x y p)
            ∙ is-new x z (ap is_lt (order.trans x y z (is-less (cmp x y) p) (is-less (cmp y z) q)))
            ∙ sym (ap (lesser cmp (Some x)) (is-new y z q) ∙ is-new x y p)
        by true p false q = ap (λ l. lesser cmp l (Some z)) (is-new x y p) ∙ sym (ap (lesser cmp (Some x)) (is-old y z q))
        by false p true q =
            ap (λ l. lesser cmp l (Some z)) (is-old x y p) ∙ is-new y z q
            ∙ sym (ap (lesser cmp (Some x)) (is-new y z q) ∙ is-old x y p)
        by false p false q =
            ap (λ l. lesser cmp l (Some z)) (is-old x y p) ∙ is-old y z q
            ∙ sym (ap (lesser cmp (Some x)) (is-old y z q)
            ∙ is-old x z (back x z ∙ upto order z y x (sym (back y z) ∙ q) (sym (back x y) ∙ p)))

    pub lesser-regroup : (x y z : Option X) → lesser cmp (lesser cmp x y) z ≡ lesser cmp x (lesser cmp y z)
    lesser-regroup None y z = refl
    lesser-regroup (Some x) None z = refl
    lesser-regroup (Some x) (Some y) None = by (is_lt (cmp x y))
      where
        by : (b : Bool) → lesser cmp (if b then Some x else Some y) None ≡ (if b then Some x else Some y)
        by true = refl
        by false = refl
    lesser-regroup (Some x) (Some y) (Some z) = three x y z

    -- the least of joined lists is the lesser of the least of both
    pub least-append : (a b : List X) → least_of cmp (a ++ b) ≡ lesser cmp (least_of cmp a) (least_of cmp b)
    least-append [] b = refl
    least-append (x ∷ a) b =
        first-put x (rising cmp kept (a ++ b)) ∙ ap (lesser cmp (Some x)) (least-append a b)
        ∙ sym (lesser-regroup (Some x) (least_of cmp a) (least_of cmp b))
        ∙ ap (λ l. lesser cmp l (least_of cmp b)) (sym (first-put x (rising cmp kept a)))

    module _ (same : IsAntisymmetric cmp) where
      two : (x y : X) → lesser cmp (Some x) (Some y) ≡ lesser cmp (Some y) (Some x)
      two x y = by (is_lt (cmp x y)) refl (is_lt (cmp y x)) refl
        where
          by : (s : Bool) → is_lt (cmp x y) ≡ s → (t : Bool) → is_lt (cmp y x) ≡ t → lesser cmp (Some x) (Some y) ≡ lesser cmp (Some y) (Some x)
          by true p true q = absurd (true≢false (sym q ∙ back y x ∙ not-greater (cmp x y) (is-less (cmp x y) p)))
          by true p false q = is-new x y p ∙ sym (is-old y x q)
          by false p true q = is-old x y p ∙ sym (is-new y x q)
          by false p false q =
              is-old x y p ∙ ap Some (sym (same x y (is-level (cmp x y) p (sym (back y x) ∙ q)))) ∙ sym (is-old y x q)

      pub lesser-turn : (x y : Option X) → lesser cmp x y ≡ lesser cmp y x
      lesser-turn None None = refl
      lesser-turn None (Some y) = refl
      lesser-turn (Some x) None = refl
      lesser-turn (Some x) (Some y) = two x y
