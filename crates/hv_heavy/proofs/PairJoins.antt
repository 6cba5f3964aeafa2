-- Two rising lists of pairs joined, and their heavy hitters.
use Rattle.std.proofs.Common.{◌≡◌, ◌≤◌, ◌+◌, ◌++◌, ℕ, List, [], ◌∷◌, sym, ap, subst, length, take, arith, ◌∙◌}
use Rattle.std.specs.Ordering.{match_ordering}
use Rattle.std.specs.declared.cmp.Ordering.{Ordering}
use Rattle.std.specs.declared.cmp.Ordering.TheVariants.{Less, Equal, Greater}
use Rattle.std.proofs.lemmas.List.{take_all}
use Rattle.hv_value.specs.declared.cell.Cell.{Cell}
use Rattle.hv_sketch.proofs.Least.{put_all-join, rising-rises, rising-same, take-rises}
use Rattle.hv_sketch.specs.Rising.{IsRising, put, put_all, rising}
use Rattle.hv_heavy.specs.Heavy.{IsNear, by_value}
use Rattle.hv_heavy.specs.PairOrder.{added_joins, pairs_total}
use Rattle.hv_heavy.specs.Pairs.{added}
use Rattle.hv_heavy.specs.declared.summary.HeavyPair.{HeavyPair}
use Rattle.hv_heavy.proofs.Near.{near-joined}

-- a put makes a list longer by one at most
put-most : (x : HeavyPair) (ys : List HeavyPair) → length (put by_value added x ys) ≤ length ys + 1
put-most x [] = omega arith
put-most x (y ∷ ys) = by (by_value x y) (put-most x ys)
  where
    by : (o : Ordering) → length (put by_value added x ys) ≤ length ys + 1
        → length (match_ordering o (x ∷ y ∷ ys) (added x y ∷ ys) (y ∷ put by_value added x ys)) ≤ length (y ∷ ys) + 1
    by Less more = omega arith
    by Equal more = omega arith
    by Greater more = omega arith

joined-most : (a b : List HeavyPair) → length (put_all by_value added a b) ≤ length a + length b
joined-most [] b = omega arith
joined-most (x ∷ a) b = omega (arith, put-most x (put_all by_value added a b), joined-most a b)

-- so the first of both joined, as many as both have, are all
pub joined-all : (a b : List HeavyPair) → take (length a + length b) (put_all by_value added a b) ≡ put_all by_value added a b
joined-all a b = take_all (length a + length b) (put_all by_value added a b) (joined-most a b)

-- and the bounds hold of them
pub near-taken : (k n : ℕ) (count : Cell → ℕ) (a b both : List HeavyPair) → both ≡ take (length a + length b) (put_all by_value added a b)
    → IsNear k n count (a ++ b) → IsNear k n count both
near-taken k n count a b both is h = subst (λ l. IsNear k n count l) (sym (is ∙ joined-all a b)) (near-joined k n count a b h)

-- they rise where the second does
pub joined-rises : (most : ℕ) (a b both : List HeavyPair) → IsRising by_value b → both ≡ take most (put_all by_value added a b) → IsRising by_value both
joined-rises most a b both rises is =
    let as_rising : put_all by_value added a b ≡ rising by_value added (a ++ b) =
    ap (put_all by_value added a) (sym (rising-same by_value added pairs_total added_joins b rises)) ∙ sym (put_all-join by_value added a b []) in
    rw (is, as_rising)
    (take-rises by_value added pairs_total added_joins most (rising by_value added (a ++ b)) (rising-rises by_value added pairs_total added_joins (a ++ b)))
