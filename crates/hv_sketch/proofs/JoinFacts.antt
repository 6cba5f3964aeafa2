-- The steps by which two rising lists are joined.
use Rattle.std.proofs.Common.{◌≡◌, ◌≤◌, ◌-◌, suc, List, [], ◌∷◌, sym, ap, length, get_or, take, drop, arith, ◌∙◌}
use Rattle.std.specs.Cmp.{IsTotalOrder}
use Rattle.std.specs.List.{Contains}
use Rattle.std.specs.declared.cmp.Ordering.{Ordering}
use Rattle.std.specs.declared.cmp.Ordering.TheVariants.{Less, Equal, Greater}
use Rattle.std.proofs.lemmas.List.{take_all}
use Rattle.hv_sketch.specs.Joining.{AreJoinable, IsFirst}
use Rattle.hv_sketch.specs.Rising.{IsRising, JoinsTies}
use Rattle.hv_sketch.proofs.Least.{rising-same, step-greater, step-less, step-tied}

module _ {X : Type 0} where
  -- a list is its first element and the rest, as a pattern gives them
  pub front_at : (xs : List X) (x : X) → 1 ≤ length xs → x ≡ get_or xs 0 x → xs ≡ x ∷ take (length xs - 1) (drop 1 xs)
  front_at [] x some is = absurd (omega (arith, some))
  front_at (y ∷ ys) x some is = rw is (ap (λ l. y ∷ l) (sym (take_all (length (y ∷ ys) - 1) ys (omega arith))))

  -- an element of the rest is one of the list
  behind : (x z : X) (xs : List X) → Contains xs z → Contains (x ∷ xs) z
  behind x z xs at = (suc at.0, omega (arith, at.1), at.2)

module _ {X : Type 0} (cmp : X → X → Ordering) (join : X → X → X) (may_join : X → X → Type 0) (order : IsTotalOrder cmp) (joins : JoinsTies cmp join) where
  -- the first of one list alone
  pub first_left : (a b : List X) (x : X) (xs : List X) → a ≡ x ∷ xs → b ≡ [] → IsRising cmp a → AreJoinable cmp may_join a b
      → IsFirst cmp join may_join a b x xs b
  first_left a b x xs e f rises joinable =
      let up : IsRising cmp (x ∷ xs) = rw e at rises in
      let may : AreJoinable cmp may_join (x ∷ xs) [] = rw (e, f) at joinable in
      rw (e, f) record {
        is = rising-same cmp join order joins (x ∷ xs) up ∙ ap (λ l. x ∷ l) (sym (rising-same cmp join order joins xs up.1));
        left = up.1;
        right = tt;
        joinable = λ y z inside. may y z (behind x y xs inside);
        fewer = omega arith;
      }

  module _ (a b : List X) (x y : X) (xs ys : List X) (e : a ≡ x ∷ xs) (f : b ≡ y ∷ ys)
      (left : IsRising cmp a) (right : IsRising cmp b) (joinable : AreJoinable cmp may_join a b) where
    pub first_less : cmp x y ≡ Less → IsFirst cmp join may_join a b x xs b
    first_less less =
        let up : IsRising cmp (x ∷ xs) = rw e at left in
        let high : IsRising cmp (y ∷ ys) = rw f at right in
        let may : AreJoinable cmp may_join (x ∷ xs) (y ∷ ys) = rw (e, f) at joinable in
        rw (e, f) record {
          is = step-less cmp join order joins x y xs ys up high less;
          left = up.1;
          right = high;
          joinable = λ z w inside. may z w (behind x z xs inside);
          fewer = omega arith;
        }

    pub first_tied : cmp x y ≡ Equal → IsFirst cmp join may_join a b (join x y) xs ys
    first_tied tied =
        let up : IsRising cmp (x ∷ xs) = rw e at left in
        let high : IsRising cmp (y ∷ ys) = rw f at right in
        let may : AreJoinable cmp may_join (x ∷ xs) (y ∷ ys) = rw (e, f) at joinable in
        rw (e, f) record {
          is = step-tied cmp join order joins x y xs ys up high tied;
          left = up.1;
          right = high.1;
          joinable = λ z w inside other. may z w (behind x z xs inside) (behind y w ys other);
          fewer = omega arith;
        }

    pub first_greater : cmp x y ≡ Greater → IsFirst cmp join may_join a b y a ys
    first_greater greater =
        let up : IsRising cmp (x ∷ xs) = rw e at left in
        let high : IsRising cmp (y ∷ ys) = rw f at right in
        let may : AreJoinable cmp may_join (x ∷ xs) (y ∷ ys) = rw (e, f) at joinable in
        rw (e, f) record {
          is = step-greater cmp join order joins x y xs ys up high greater;
          left = up;
          right = high.1;
          joinable = λ z w inside other. may z w inside (behind y w ys other);
          fewer = omega arith;
        }
