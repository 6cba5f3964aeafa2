-- What is left of rising pairs whose estimates are lowered: the bounds hold of it where k + 1 pairs at least lost all that was taken from each.
use Rattle.std.proofs.Common.{◌≡◌, ◌≤◌, ◌+◌, ◌-◌, ◌*◌, ℕ, List, [], ◌∷◌, Bool, true, false, refl, ap, length, arith, ◌∙◌, nat_le, nat_lt}
use Rattle.std.proofs.Math.Nat.{mul-add, mul-le-mul_left}
use Rattle.std.specs.Prelude.{filter, count_by, if◌then◌else◌}
use Rattle.std.specs.List.{All}
use Rattle.std.specs.Ordering.{is_eq}
use Rattle.std.specs.declared.cmp.Ordering.TheVariants.{Less}
use Rattle.std.proofs.lemmas.Bool.{leb-true, ltb-true, ltb-false}
use Rattle.std.proofs.lemmas.List.{length-map}
use Rattle.std.proofs.lemmas.List.Elements.{All-cons, All-nil}
use Rattle.std.proofs.lemmas.List.Sums.{length-filter, sum_by-cons}
use Rattle.hv_value.specs.declared.cell.Cell.{Cell}
use Rattle.hv_value.specs.Order.{compare_cells}
use Rattle.hv_sketch.specs.Rising.{IsAbove, IsRising}
use Rattle.hv_heavy.specs.Heavy.{AreHeavy, IsNear, by_value, estimate, estimate_at, is_same, total}
use Rattle.hv_heavy.specs.PairOrder.{pairs_total}
use Rattle.hv_heavy.specs.Pairs.{lowered, taken}
use Rattle.hv_heavy.specs.declared.summary.HeavyPair.{HeavyPair}
use Rattle.hv_heavy.proofs.Near.{same-is}

-- a pair below the first of a rising list is below the first of its rest
above-next : (x y : HeavyPair) (ys : List HeavyPair) → by_value x y ≡ Less → IsAbove by_value y ys → IsAbove by_value x ys
above-next x y [] first above = tt
above-next x y (z ∷ zs) first above = pairs_total.trans x y z first above

-- a value below the first of a rising list has no estimate there
none-above : (x : HeavyPair) (xs : List HeavyPair) → IsAbove by_value x xs → IsRising by_value xs → estimate xs x.value ≡ 0
none-above x [] above rises = refl
none-above x (y ∷ ys) above rises =
    let other : estimate_at x.value y ≡ 0 = ap (λ o. if is_eq o then y.estimate else 0) above in
    omega (arith, sum_by-cons (estimate_at x.value) y ys, other, none-above x ys (above-next x y ys above rises.0) rises.1)

at_most : (n : ℕ) (b : Bool) → (if b then n else 0) ≤ n
at_most n true = omega arith
at_most n false = omega arith

module _ (less : ℕ) where
  abbrev is_kept : HeavyPair → Bool
  is_kept pair = nat_lt less pair.estimate

  abbrev one_lowered : HeavyPair → HeavyPair
  one_lowered pair = record { value = pair.value; estimate = pair.estimate - less }

  -- a pair that is kept, and one that isn't
  lowered-kept : (x : HeavyPair) (xs : List HeavyPair) → nat_lt less x.estimate ≡ true → lowered less (x ∷ xs) ≡ one_lowered x ∷ lowered less xs
  lowered-kept x xs e = rw e refl

  lowered-gone : (x : HeavyPair) (xs : List HeavyPair) → nat_lt less x.estimate ≡ false → lowered less (x ∷ xs) ≡ lowered less xs
  lowered-gone x xs e = rw e refl

  -- what is left rises
  lowered-above : (x : HeavyPair) (xs : List HeavyPair) → IsAbove by_value x xs → IsRising by_value xs → (y : HeavyPair) → y.value ≡ x.value
      → IsAbove by_value y (lowered less xs)
  lowered-above x [] above rises y same = tt
  lowered-above x (z ∷ zs) above rises y same =
      by (nat_lt less z.estimate) refl (lowered-above x zs (above-next x z zs above rises.0) rises.1 y same)
    where
      by : (b : Bool) → nat_lt less z.estimate ≡ b → IsAbove by_value y (lowered less zs) → IsAbove by_value y (lowered less (z ∷ zs))
      by true e rest = rw (lowered-kept z zs e) (ap (λ v. compare_cells v z.value) same ∙ above)
      by false e rest = rw (lowered-gone z zs e) rest

  pub lowered-rises : (xs : List HeavyPair) → IsRising by_value xs → IsRising by_value (lowered less xs)
  lowered-rises [] rises = tt
  lowered-rises (x ∷ xs) rises = by (nat_lt less x.estimate) refl (lowered-rises xs rises.1)
    where
      by : (b : Bool) → nat_lt less x.estimate ≡ b → IsRising by_value (lowered less xs) → IsRising by_value (lowered less (x ∷ xs))
      by true e rest = rw (lowered-kept x xs e) (lowered-above x xs rises.0 rises.1 (one_lowered x) refl, rest)
      by false e rest = rw (lowered-gone x xs e) rest

  -- no estimate that is left is 0
  pub lowered-some : (xs : List HeavyPair) → All (λ pair. 1 ≤ pair.estimate) (lowered less xs)
  lowered-some [] = All-nil _
  lowered-some (x ∷ xs) = by (nat_lt less x.estimate) refl (lowered-some xs)
    where
      by : (b : Bool) → nat_lt less x.estimate ≡ b → All (λ pair. 1 ≤ pair.estimate) (lowered less xs)
          → All (λ pair. 1 ≤ pair.estimate) (lowered less (x ∷ xs))
      by true e rest =
          rw (lowered-kept x xs e)
          (All-cons (λ (pair : HeavyPair). 1 ≤ pair.estimate) (one_lowered x) (lowered less xs) (omega (arith, ltb-true less x.estimate e)) rest)
      by false e rest = rw (lowered-gone x xs e) rest

  -- no estimate rises
  lowered-low : (value : Cell) (xs : List HeavyPair) → estimate (lowered less xs) value ≤ estimate xs value
  lowered-low value [] = omega arith
  lowered-low value (x ∷ xs) = by (nat_lt less x.estimate) refl (is_same value x.value) refl (lowered-low value xs)
    where
      by : (b : Bool) → nat_lt less x.estimate ≡ b → (c : Bool) → is_same value x.value ≡ c → estimate (lowered less xs) value ≤ estimate xs value
          → estimate (lowered less (x ∷ xs)) value ≤ estimate (x ∷ xs) value
      by true e true f rest =
          rw (lowered-kept x xs e)
          (omega (
            arith,
            sum_by-cons (estimate_at value) (one_lowered x) (lowered less xs),
            sum_by-cons (estimate_at value) x xs,
            ap (λ b. if b then x.estimate - less else 0) f,
            ap (λ b. if b then x.estimate else 0) f,
          ))
      by true e false f rest =
          rw (lowered-kept x xs e)
          (omega (
            arith,
            sum_by-cons (estimate_at value) (one_lowered x) (lowered less xs),
            sum_by-cons (estimate_at value) x xs,
            ap (λ b. if b then x.estimate - less else 0) f,
            ap (λ b. if b then x.estimate else 0) f,
          ))
      by false e c f rest = rw (lowered-gone x xs e) (omega (arith, sum_by-cons (estimate_at value) x xs))

  -- and none falls by more than what is taken
  lowered-high : (value : Cell) (xs : List HeavyPair) → IsRising by_value xs → estimate xs value ≤ estimate (lowered less xs) value + less
  lowered-high value [] rises = omega arith
  lowered-high value (x ∷ xs) rises =
      by (is_same value x.value) refl (nat_lt less x.estimate) refl (lowered-high value xs rises.1)
    where
      alone : is_same value x.value ≡ true → estimate xs value ≡ 0
      alone f = ap (estimate xs) (same-is value x.value f) ∙ none-above x xs rises.0 rises.1

      by : (c : Bool) → is_same value x.value ≡ c → (b : Bool) → nat_lt less x.estimate ≡ b → estimate xs value ≤ estimate (lowered less xs) value + less
          → estimate (x ∷ xs) value ≤ estimate (lowered less (x ∷ xs)) value + less
      by true f true e rest =
          rw (lowered-kept x xs e)
          (omega (
            arith,
            sum_by-cons (estimate_at value) (one_lowered x) (lowered less xs),
            sum_by-cons (estimate_at value) x xs,
            ap (λ b. if b then x.estimate - less else 0) f,
            ap (λ b. if b then x.estimate else 0) f,
            alone f,
          ))
      by true f false e rest =
          rw (lowered-gone x xs e)
          (omega (
            arith,
            sum_by-cons (estimate_at value) x xs,
            ap (λ b. if b then x.estimate else 0) f,
            alone f,
            ltb-false less x.estimate e,
          ))
      by false f true e rest =
          rw (lowered-kept x xs e)
          (omega (
            arith,
            sum_by-cons (estimate_at value) (one_lowered x) (lowered less xs),
            sum_by-cons (estimate_at value) x xs,
            ap (λ b. if b then x.estimate else 0) f,
          ))
      by false f false e rest =
          rw (lowered-gone x xs e)
          (omega (
            arith,
            sum_by-cons (estimate_at value) x xs,
            ap (λ b. if b then x.estimate else 0) f,
          ))

  -- the sum falls by as much at least from each pair at or above it
  lowered-total : (xs : List HeavyPair) → total (lowered less xs) + taken less xs ≤ total xs
  lowered-total [] = omega arith
  lowered-total (x ∷ xs) = by (nat_lt less x.estimate) refl (nat_le less x.estimate) refl (lowered-total xs)
    where
      by : (b : Bool) → nat_lt less x.estimate ≡ b → (c : Bool) → nat_le less x.estimate ≡ c → total (lowered less xs) + taken less xs ≤ total xs
          → total (lowered less (x ∷ xs)) + taken less (x ∷ xs) ≤ total (x ∷ xs)
      by true e c f rest =
          rw (lowered-kept x xs e)
          (omega (
            arith,
            sum_by-cons (λ (pair : HeavyPair). pair.estimate) (one_lowered x) (lowered less xs),
            sum_by-cons (λ (pair : HeavyPair). pair.estimate) x xs,
            sum_by-cons (λ (pair : HeavyPair). if nat_le less pair.estimate then less else 0) x xs,
            at_most less (nat_le less x.estimate),
            ltb-true less x.estimate e,
          ))
      by false e true f rest =
          rw (lowered-gone x xs e)
          (omega (
            arith,
            sum_by-cons (λ (pair : HeavyPair). pair.estimate) x xs,
            sum_by-cons (λ (pair : HeavyPair). if nat_le less pair.estimate then less else 0) x xs,
            at_most less (nat_le less x.estimate),
            leb-true less x.estimate f,
          ))
      by false e false f rest =
          rw (lowered-gone x xs e)
          (omega (
            arith,
            sum_by-cons (λ (pair : HeavyPair). pair.estimate) x xs,
            sum_by-cons (λ (pair : HeavyPair). if nat_le less pair.estimate then less else 0) x xs,
            ap (λ b. if b then less else 0) f,
          ))

  -- how many are left
  lowered-few : (xs : List HeavyPair) → length (lowered less xs) ≡ count_by is_kept xs
  lowered-few xs = length-map (filter is_kept xs) one_lowered ∙ length-filter is_kept xs

-- what is lost of a count after its estimate fell
lost-more : (m less c e left t taken after n : ℕ) → e ≤ left + less → m * (c - e) + t ≤ n → after + taken ≤ t → m * less ≤ taken → m * (c - left) + after ≤ n
lost-more m less c e left t taken after n fell bound falls enough =
    let step : m * (c - left) ≤ m * ((c - e) + less) = mul-le-mul_left m (omega arith) in
    omega (arith, step, mul-add m (c - e) less)

-- heavy hitters stay so where the estimates are lowered
pub heavy-lowered : (k n less : ℕ) (count : Cell → ℕ) (pairs : List HeavyPair) → IsRising by_value pairs → IsNear k n count pairs
    → (k + 1) * less ≤ taken less pairs → count_by (λ pair. nat_lt less pair.estimate) pairs ≤ k → AreHeavy k n count (lowered less pairs)
heavy-lowered k n less count pairs rises h enough few =
    record {
      rises = lowered-rises less pairs rises;
      some = lowered-some less pairs;
      few = omega (arith, lowered-few less pairs, few);
      near =
          record {
            low = λ value. omega (arith, lowered-low less value pairs, h.low value);
            near =
                λ value. lost-more (k + 1) less (count value) (estimate pairs value) (estimate (lowered less pairs) value) (total pairs) (taken less pairs)
                (total (lowered less pairs)) n (lowered-high less value pairs rises) (h.near value) (lowered-total less pairs) enough;
          };
    }
