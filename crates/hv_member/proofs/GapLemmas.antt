-- One pass over the numbers below a size beside a rising list of some of them.
use Rattle.std.proofs.Common.{◌≡◌, ℕ, suc, ◌+◌, ◌-◌, ◌<◌, ◌≤◌, false, eqb, ◌⊎◌, ◌≢◌, inl, inr, List, [], ◌∷◌, ◌++◌, length, get_or, refl, sym, ap, ◌∙◌, arith, append_assoc}
use Rattle.std.proofs.lemmas.Bool.{eq-eqb, or_left, both_ways}
use Rattle.std.specs.List.{AllByRecursion, range_with_len}
use Rattle.hv_member.specs.Sets.{is_in, IsRising, minus, numbers}
use Rattle.hv_member.proofs.RisingLemmas.{all-in, all-from, first_once, not_below_first, IsRising-run}
use Rattle.hv_member.proofs.MergeLemmas.{rest_of, rest-cons, minus-skip_right}

-- what is found below i, and what of the list is from i on
pub record Sifting (size : ℕ) (xs found : List ℕ) (i : ℕ) (rest : List ℕ) : Type 0 where
  pub rising : IsRising rest
  pub low : AllByRecursion (λ x. i ≤ x) rest
  pub total : minus (numbers size) xs ≡ found ++ minus (range_with_len i (size - i)) rest

-- the numbers from i up to the size are i and those after it
run-first : (i size : ℕ) → i < size → range_with_len i (size - i) ≡ i ∷ range_with_len (i + 1) (size - (i + 1))
run-first i size below =
    let room : size - i ≡ suc (size - (i + 1)) = omega arith in ap (λ n. range_with_len i n) room

drop_first : (size i x : ℕ) (xs found rest : List ℕ) → i < size → x ≡ i → Sifting size xs found i (x ∷ rest)
    → Sifting size xs found (i + 1) (rest_of (x ∷ rest))
drop_first size i x xs found rest below same so_far =
    rw (rest-cons x rest) (record {
      rising = so_far.rising.1;
      low = all-from (λ z. i + 1 ≤ z) rest (λ z there. let above : x < z = all-in (λ w. x < w) rest so_far.rising.0 z there in omega arith);
      total = so_far.total ∙ ap (λ t. found ++ t) (ap (λ t. minus t (x ∷ rest)) (run-first i size below) ∙ skipped);
    })
  where
    skipped : minus (i ∷ range_with_len (i + 1) (size - (i + 1))) (x ∷ rest) ≡ minus (range_with_len (i + 1) (size - (i + 1))) rest
    skipped =
        rw (or_left (eqb i x) (is_in i rest) (eq-eqb i x (sym same)))
        (minus-skip_right x rest (range_with_len (i + 1) (size - (i + 1))) (rw same (first_once i _ (IsRising-run i (suc (size - (i + 1)))))))

-- the number is the first of the rest, and is passed over
pub gap_drop : (size i : ℕ) (xs found rest : List ℕ) → i < size → 0 < length rest → get_or rest 0 0 ≡ i
    → Sifting size xs found i rest → Sifting size xs found (i + 1) (rest_of rest)
gap_drop size i xs found [] below some same so_far = absurd (omega arith)
gap_drop size i xs found (x ∷ rest) below some same so_far = drop_first size i x xs found rest below same so_far

-- where the rest has ended or begins with another number, it doesn't have the number
pub gap_absent : (size i : ℕ) (xs found rest : List ℕ) → (length rest < 1) ⊎ (get_or rest 0 0 ≡ i → ⊥)
    → Sifting size xs found i rest → is_in i rest ≡ false
gap_absent size i xs found [] other so_far = refl
gap_absent size i xs found (x ∷ rest) (inl none) so_far = absurd (omega arith)
gap_absent size i xs found (x ∷ rest) (inr other) so_far =
    let low : i ≤ x = so_far.low.0 in
    let different : x ≢ i = other in
    not_below_first i x rest so_far.rising (omega arith)

-- and the number is kept
pub gap_keep : (size i : ℕ) (xs found more rest : List ℕ) → i < size → is_in i rest ≡ false → more ≡ found ++ i ∷ []
    → Sifting size xs found i rest → Sifting size xs more (i + 1) rest
gap_keep size i xs found more rest below none pushed so_far =
    rw pushed (record {
      rising = so_far.rising;
      low =
          all-from (λ z. i + 1 ≤ z) rest (λ z there.
          let from : i ≤ z = all-in (λ w. i ≤ w) rest so_far.low z there in
          let other : z ≢ i = λ same. both_ways (is_in z rest) (ap (λ t. is_in t rest) same ∙ none) there in
          omega arith);
      total =
          so_far.total ∙ ap (λ t. found ++ t) (ap (λ t. minus t rest) (run-first i size below) ∙ rw none refl)
          ∙ sym (append_assoc found (i ∷ []) (minus (range_with_len (i + 1) (size - (i + 1))) rest));
    })
