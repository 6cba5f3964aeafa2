-- Words of 64 bits as a set of numbers: what sets a bit, finds the first, and compares two lists of words.
use Rattle.std.proofs.Common.{◌≡◌, ℕ, ◌+◌, ◌-◌, ◌*◌, ◌/◌, ◌%◌, ◌^◌, ◌<◌, ◌≤◌, min, true, false, ◌||◌, eqb, List, length, get_or, set, Option, Some, None, refl, sym, ap, ◌∙◌, inl, inr, arith, w64, get_or-set_same, get_or-set_other, replicate}
use Rattle.std.proofs.lemmas.Bool.{cases_eq, cases_lt, eq-eqb, ne_eqb, eqb-true, both_ways}
use Rattle.std.proofs.lemmas.List.{get_or_past, get_or-replicate, length-replicate}
use Rattle.std.proofs.lemmas.Nat.{shr-shr}
use Rattle.std.proofs.lemmas.Nat.Bits.{bit_at-zero, bit_at_set_same, bit_at_set_other, bit_at-trailing_zeros, bit_at_above, bit_at_and, bit_at-lt, same_from_bits}
use Rattle.std.specs.Prelude.{bit_and, bit_or}
use Rattle.std.specs.Int.{bit_at, trailing_zeros}
use Rattle.hv_member.specs.Bits.{bit_of, IsFirstBit}

-- ---- a bit of a list of words

-- bit i of word k
pub bit_of-word : (words : List ℕ) (p k i : ℕ) → p / 64 ≡ k → p % 64 ≡ i → bit_of words p ≡ eqb (bit_at (get_or words k 0) i) 1
bit_of-word words p k i word bit = ap (λ t. eqb (bit_at (get_or words t 0) (p % 64)) 1) word ∙ ap (λ t. eqb (bit_at (get_or words k 0) t) 1) bit

-- a word that is 0 has no bit set
pub bit_of-zero : (words : List ℕ) (p : ℕ) → get_or words (p / 64) 0 ≡ 0 → bit_of words p ≡ false
bit_of-zero words p none = ap (λ t. eqb (bit_at t (p % 64)) 1) none ∙ ap (λ t. eqb t 1) (bit_at-zero (p % 64))

-- nor is there one past the last word
pub bit_of-past : (words : List ℕ) (p : ℕ) → 64 * length words ≤ p → bit_of words p ≡ false
bit_of-past words p past = bit_of-zero words p (get_or_past words (p / 64) 0 (omega arith))

-- words that are 0 are the empty set
pub bit_of-zeros : (n p : ℕ) → bit_of (replicate n 0) p ≡ false
bit_of-zeros n p =
    bit_of-zero (replicate n 0) p (elim (cases_lt (p / 64) n) [
      | inl within ↦ get_or-replicate n (p / 64) 0 0 within
      | inr past ↦ get_or_past (replicate n 0) (p / 64) 0 (omega (arith, length-replicate {A = ℕ} n 0))
    ])

-- a bit that isn't 1 is not set
unset : (b : ℕ) → b ≡ 0 → eqb b 1 ≡ false
unset b none = ne_eqb b 1 (λ one. omega arith)

-- ---- setting a bit

-- the words after bit n is set
pub bit_of-set : (words : List ℕ) (n : ℕ) → n < 64 * length words → (k : ℕ)
    → bit_of (set words (n / 64) (bit_or (get_or words (n / 64) 0) (1 * 2 ^ (n % 64) % 2 ^ 64))) k ≡ (eqb k n || bit_of words k)
bit_of-set words n within k =
    let word : ℕ = get_or words (n / 64) 0 in
    let v : ℕ = bit_or word (1 * 2 ^ (n % 64) % 2 ^ 64) in
    let inside : n / 64 < length words = omega arith in
    let low : n % 64 < 64 = omega arith in
    elim (cases_eq k n) [
      | inl same ↦
          bit_of-word (set words (n / 64) v) k (n / 64) (n % 64) (ap (λ t. t / 64) same) (ap (λ t. t % 64) same)
          ∙ ap (λ t. eqb (bit_at t (n % 64)) 1) (get_or-set_same words (n / 64) v 0 inside)
          ∙ eq-eqb _ 1 (bit_at_set_same w64 word (n % 64) low)
          ∙ sym (ap (λ t. t || bit_of words k) (eq-eqb k n same))
      | inr other ↦
          (elim (cases_eq (k / 64) (n / 64)) [
            | inl row ↦
                bit_of-word (set words (n / 64) v) k (n / 64) (k % 64) row refl
                ∙ ap (λ t. eqb (bit_at t (k % 64)) 1) (get_or-set_same words (n / 64) v 0 inside)
                ∙ ap (λ t. eqb t 1) (bit_at_set_other w64 word (n % 64) low (k % 64) (omega arith))
                ∙ sym (bit_of-word words k (n / 64) (k % 64) row refl)
            | inr apart ↦ ap (λ t. eqb (bit_at t (k % 64)) 1) (get_or-set_other words (n / 64) (k / 64) v 0 apart)
          ])
          ∙ sym (ap (λ t. t || bit_of words k) (ne_eqb k n other))
    ]

-- ---- the first bit

-- the first bit from `mid` on is the first from `from` on where none lies between
pub first_bit-later : (words : List ℕ) (from mid : ℕ) (r : Option ℕ) → from ≤ mid
    → ((p : ℕ) → from ≤ p → p < mid → bit_of words p ≡ false) → IsFirstBit words mid r → IsFirstBit words from r
first_bit-later words from mid None order none first =
    λ p low. elim (cases_lt p mid) [ inl below ↦ none p low below | inr above ↦ first p above ]
first_bit-later words from mid (Some q) order none first =
    (omega (arith, first.0), first.1, λ p low high. elim (cases_lt p mid) [ inl below ↦ none p low below | inr above ↦ first.2 p above high ])

-- the lowest bit of a word, where all words before it are 0
pub first_bit-word : (words : List ℕ) (start k word : ℕ) → start ≤ k → word ≡ get_or words k 0 → 0 < word → word < 2 ^ 64
    → ((p : ℕ) → 64 * start ≤ p → p < 64 * k → bit_of words p ≡ false)
    → IsFirstBit words (64 * start) (Some (64 * k + trailing_zeros w64 word))
first_bit-word words start k word order read some small none =
    let lowest = bit_at-trailing_zeros w64 word some small in
    let z : ℕ = trailing_zeros w64 word in
    let below : z < 64 = lowest.0 in (
      omega arith,
      bit_of-word words (64 * k + z) k z (omega arith) (omega arith)
          ∙ ap (λ t. eqb (bit_at t z) 1) (sym read) ∙ eq-eqb _ 1 lowest.1,
      λ p low high. elim (cases_lt p (64 * k)) [
        | inl before ↦ none p low before
        | inr here ↦
            bit_of-word words p k (p % 64) (omega arith) refl
            ∙ ap (λ t. eqb (bit_at t (p % 64)) 1) (sym read) ∙ unset _ (lowest.2 (p % 64) (omega arith))
      ],
    )

-- ---- the word in which the search begins

-- a bit of a word that was shifted down
shifted : (word by i : ℕ) → bit_at (word / 2 ^ by) i ≡ bit_at word (by + i)
shifted word by i = ap (λ t. t % 2) (shr-shr word by i)

-- where nothing is left of the word, no bit of it is set from there on
pub first_bit-shifted_out : (words : List ℕ) (from : ℕ) → get_or words (from / 64) 0 / 2 ^ (from % 64) ≡ 0
    → (p : ℕ) → from ≤ p → p < 64 * (from / 64 + 1) → bit_of words p ≡ false
first_bit-shifted_out words from gone p low high =
    let word : ℕ = get_or words (from / 64) 0 in
    let by : ℕ = from % 64 in
    let place : by + (p % 64 - by) ≡ p % 64 = omega arith in
    bit_of-word words p (from / 64) (p % 64) (omega arith) refl
    ∙ unset _ (ap (bit_at word) (sym place) ∙ sym (shifted word by (p % 64 - by)) ∙ ap (λ t. bit_at t (p % 64 - by)) gone ∙ bit_at-zero (p % 64 - by))

-- else its lowest bit is the first
pub first_bit-shifted : (words : List ℕ) (from rest : ℕ) → get_or words (from / 64) 0 < 2 ^ 64
    → rest ≡ get_or words (from / 64) 0 / 2 ^ (from % 64) → 0 < rest → rest < 2 ^ 64
    → IsFirstBit words from (Some (from + trailing_zeros w64 rest))
first_bit-shifted words from rest fits is some small =
    let word : ℕ = get_or words (from / 64) 0 in
    let by : ℕ = from % 64 in
    let z : ℕ = trailing_zeros w64 rest in
    let lowest = bit_at-trailing_zeros w64 rest some small in
    let moved : (i : ℕ) → bit_at rest i ≡ bit_at word (by + i) = λ i. ap (λ t. bit_at t i) is ∙ shifted word by i in
    let one : bit_at word (by + z) ≡ 1 = sym (moved z) ∙ lowest.1 in
    let within : by + z < 64 =
    elim (cases_lt (by + z) 64) [
      | inl below ↦ below
      | inr above ↦ absurd (let none : bit_at word (by + z) ≡ 0 = bit_at_above word 64 (by + z) fits above in omega arith)
    ] in (
      omega arith,
      bit_of-word words (from + z) (from / 64) (by + z) (omega arith) (omega arith) ∙ eq-eqb _ 1 one,
      λ p low high.
          bit_of-word words p (from / 64) (by + (p - from)) (omega arith) (omega arith)
          ∙ unset _ (sym (moved (p - from)) ∙ lowest.2 (p - from) (omega arith)),
    )

-- ---- words within words

-- what is set in a word that `&` leaves as it is, is set in the other
and_keeps : (a b i : ℕ) → bit_and a b ≡ a → eqb (bit_at a i) 1 ≡ true → eqb (bit_at b i) 1 ≡ true
and_keeps a b i same there =
    let both : bit_at (bit_and a b) i ≡ min (bit_at a i) (bit_at b i) = bit_at_and a b i in
    let whole : bit_at (bit_and a b) i ≡ bit_at a i = ap (λ t. bit_at t i) same in
    let one : bit_at a i ≡ 1 = eqb-true (bit_at a i) 1 there in
    let small : bit_at b i < 2 = bit_at-lt b i in
    eq-eqb (bit_at b i) 1 (omega arith)

-- a word within the other is one that `&` leaves
pub and_within : (a b : ℕ) → a < 2 ^ 64 → ((i : ℕ) → i < 64 → eqb (bit_at a i) 1 ≡ true → eqb (bit_at b i) 1 ≡ true) → bit_and a b ≡ a
and_within a b small each =
    same_from_bits (bit_and a b) a (λ i.
    let both : bit_at (bit_and a b) i ≡ min (bit_at a i) (bit_at b i) = bit_at_and a b i in
    let bit : bit_at a i < 2 = bit_at-lt a i in
    elim (cases_eq (bit_at a i) 1) [
      | inl one ↦
          (elim (cases_lt i 64) [
            | inl low ↦ let too : bit_at b i ≡ 1 = eqb-true _ 1 (each i low (eq-eqb _ 1 one)) in omega arith
            | inr high ↦ absurd (let none : bit_at a i ≡ 0 = bit_at_above a 64 i small high in omega arith)
          ])
      | inr none ↦ let zero_bit : bit_at a i ≡ 0 = omega arith in omega arith
    ])

-- the words below k lie within the others
abbrev pub AreWithinBelow : List ℕ → List ℕ → ℕ → Type 0
AreWithinBelow left right k = (n : ℕ) → n < 64 * k → bit_of left n ≡ true → bit_of right n ≡ true

-- one more word
pub within-more : (left right : List ℕ) (k : ℕ) → bit_and (get_or left k 0) (get_or right k 0) ≡ get_or left k 0
    → AreWithinBelow left right k → AreWithinBelow left right (k + 1)
within-more left right k same below n high there =
    elim (cases_lt n (64 * k)) [
      | inl before ↦ below n before there
      | inr here ↦
          let row : n / 64 ≡ k = omega arith in
          bit_of-word right n k (n % 64) row refl
          ∙ and_keeps (get_or left k 0) (get_or right k 0) (n % 64) same (sym (bit_of-word left n k (n % 64) row refl) ∙ there)
    ]

-- all of them
pub within-all : (left right : List ℕ) (k : ℕ) → length left ≤ k → AreWithinBelow left right k
    → (n : ℕ) → bit_of left n ≡ true → bit_of right n ≡ true
within-all left right k whole below n there =
    elim (cases_lt n (64 * k)) [
      | inl before ↦ below n before there
      | inr past ↦ absurd (both_ways (bit_of left n) (bit_of-past left n (omega arith)) there)
    ]

-- a word that `&` changes has a bit that the other lacks
pub within-fails : (left right : List ℕ) (k : ℕ) → get_or left k 0 < 2 ^ 64
    → (bit_and (get_or left k 0) (get_or right k 0) ≡ get_or left k 0 → ⊥)
    → ((n : ℕ) → bit_of left n ≡ true → bit_of right n ≡ true) → ⊥
within-fails left right k small other each =
    other (and_within (get_or left k 0) (get_or right k 0) small (λ i low there.
    sym (bit_of-word right (64 * k + i) k i (omega arith) (omega arith))
    ∙ each (64 * k + i) (bit_of-word left (64 * k + i) k i (omega arith) (omega arith) ∙ there)))
