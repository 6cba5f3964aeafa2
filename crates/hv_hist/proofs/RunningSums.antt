-- Running sums, as a loop over counts makes them.
use Rattle.std.proofs.Common.{◌≡◌, ◌<◌, ◌+◌, ◌-◌, ◌++◌, ◌^◌, ◌∙◌, sym, ap, ℕ, List, [], ◌∷◌, length, map, take, get_or, min, arith}
use Rattle.std.specs.List.{range_with_len, sum}
use Rattle.std.proofs.lemmas.List.FromFn.{map-range_with_len_more}
use Rattle.std.proofs.lemmas.List.Sums.{sum_by-take-le, sum_by_more}

-- the sum up to a place, that one among them
abbrev pub sum_to : List ℕ → ℕ → ℕ
sum_to counts b = sum (take (b + 1) counts)

-- the sum of the first counts, and the running sums of them
pub record AreSums (counts : List ℕ) (i so_far : ℕ) (sums : List ℕ) : Type 0 where
  pub total : so_far ≡ sum (take i counts)
  pub each : sums ≡ map (sum_to counts) (range_with_len 0 i)

-- with one count more
pub AreSums-more : (counts : List ℕ) (i so_far : ℕ) (sums : List ℕ) (count more : ℕ) → i < length counts → count ≡ get_or counts i 0
    → more ≡ min (so_far + count) (2 ^ 64 - 1) → sum counts < 2 ^ 64 → AreSums counts i so_far sums
    → AreSums counts (i + 1) more (sums ++ more ∷ [])
AreSums-more counts i so_far sums count more within is added fits h =
    let next = sum_by_more (λ x. x) counts i 0 within in
    let few = sum_by-take-le (λ x. x) counts (i + 1) in
    let total : more ≡ sum (take (i + 1) counts) = omega (arith, h.total, next, few, is, added, fits) in
    record {
      total = total;
      each =
          ap (λ l. l ++ more ∷ []) h.each
          ∙ ap (λ x. map (sum_to counts) (range_with_len 0 i) ++ x ∷ []) total
          ∙ sym (map-range_with_len_more (sum_to counts) 0 i i (omega arith));
    }
