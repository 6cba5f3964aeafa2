-- Texts are in the order of their keys, and a short text is the only one that has its key.
use Rattle.std.proofs.Common.{◌≡◌, ◌≤◌, ◌<◌, ◌+◌, ◌-◌, ◌*◌, ◌/◌, ◌%◌, ◌^◌, ◌∙◌, inl, inr, refl, ap, subst, sym, ℕ, zero, suc, true, false, not, List, [], ◌∷◌, length, get_or, set, take, min, cond, arith}
use Rattle.std.specs.Prelude.{nat_le, nat_lt}
use Rattle.std.specs.List.{count_by}
use Rattle.std.specs.Int.{from_be_bytes, w64}
use Rattle.std.specs.Cmp.Lexicographic.{nat_list_cmp_total, slice_cmp}
use Rattle.std.specs.Ordering.{is_gt, nat_cmp, ordering_then, ordering_reverse}
use Rattle.std.specs.declared.cmp.Ordering.TheVariants.{Less, Equal}
use Rattle.std.proofs.Math.Nat.{mul-le-mul_right}
use Rattle.std.specs.Cmp.{nat_cmp_total}
use Rattle.std.proofs.lemmas.Bool.{cases_lt, cases_order, le-leb, le-ltb, lt-leb, lt-ltb}
use Rattle.std.proofs.lemmas.Cmp.{tied_itself}
use Rattle.std.proofs.lemmas.List.{get_or-set_other, get_or-set_same}
use Rattle.std.proofs.lemmas.List.Sums.{sum_by-cons}
use Rattle.hv_bucket.specs.Buckets.{is_reached}
use Rattle.hv_bucket.specs.Keys.{AreKeys, IsKey, cut_digits, head_key}

abbrev AreBytes : List ℕ → Type 0
AreBytes t = (i : ℕ) → get_or t i 0 < 256

-- there is room for the number
pub cut-fits : (x len : ℕ) → x < 2 ^ 64 → 0 < len → len < 8 → x / 2 ^ (64 - 8 * len) * 2 ^ (64 - 8 * len) % 2 ^ 64 + len < 2 ^ 64
cut-fits x zero fits some few = absurd (omega (arith, some))
cut-fits x (suc zero) fits some few = omega (arith, fits)
cut-fits x (suc (suc zero)) fits some few = omega (arith, fits)
cut-fits x (suc (suc (suc zero))) fits some few = omega (arith, fits)
cut-fits x (suc (suc (suc (suc zero)))) fits some few = omega (arith, fits)
cut-fits x (suc (suc (suc (suc (suc zero))))) fits some few = omega (arith, fits)
cut-fits x (suc (suc (suc (suc (suc (suc zero)))))) fits some few = omega (arith, fits)
cut-fits x (suc (suc (suc (suc (suc (suc (suc zero))))))) fits some few = omega (arith, fits)
cut-fits x (suc (suc (suc (suc (suc (suc (suc (suc n)))))))) fits some few = absurd (omega (arith, few))

-- the key of no byte
pub no-key : (t : List ℕ) → length t ≡ 0 → 0 ≡ head_key 7 t
unfolding head_key
no-key [] none = refl
no-key (a ∷ t) none = absurd (omega (arith, none))

-- the key of one to three bytes
pub short-key : (t : List ℕ) → AreBytes t → 0 < length t → length t < 4
    → cut_digits (length t) (get_or t 0 0 ∷ get_or t (length t / 2) 0 ∷ get_or t (length t - 1) 0 ∷ 0 ∷ 0 ∷ 0 ∷ 0 ∷ 0 ∷ []) ≡ head_key 7 t
unfolding head_key
short-key [] h some few = absurd (omega (arith, some))
short-key (a ∷ []) h some few = omega (arith, h 0)
short-key (a ∷ b ∷ []) h some few = omega (arith, h 0, h 1)
short-key (a ∷ b ∷ c ∷ []) h some few = omega (arith, h 0, h 1, h 2)
short-key (a ∷ b ∷ c ∷ d ∷ t) h some few = absurd (omega (arith, few))

-- the key of four to seven bytes
pub middle-key : (t : List ℕ) → AreBytes t → 4 ≤ length t → length t < 8
    → cut_digits (length t) (get_or t 0 0 ∷ get_or t 1 0 ∷ get_or t 2 0 ∷ get_or t 3 0 ∷ get_or t (min (length t - 1) 4) 0 ∷ get_or t (min (length t - 1) 5) 0 ∷ get_or t (length t - 1) 0 ∷ 0 ∷ []) ≡ head_key 7 t
unfolding head_key
middle-key [] h some few = absurd (omega (arith, some))
middle-key (a ∷ []) h some few = absurd (omega (arith, some))
middle-key (a ∷ b ∷ []) h some few = absurd (omega (arith, some))
middle-key (a ∷ b ∷ c ∷ []) h some few = absurd (omega (arith, some))
middle-key (a ∷ b ∷ c ∷ d ∷ []) h some few = omega (arith, h 0, h 1, h 2, h 3)
middle-key (a ∷ b ∷ c ∷ d ∷ e ∷ []) h some few = omega (arith, h 0, h 1, h 2, h 3, h 4)
middle-key (a ∷ b ∷ c ∷ d ∷ e ∷ f ∷ []) h some few = omega (arith, h 0, h 1, h 2, h 3, h 4, h 5)
middle-key (a ∷ b ∷ c ∷ d ∷ e ∷ f ∷ g ∷ []) h some few = omega (arith, h 0, h 1, h 2, h 3, h 4, h 5, h 6)
middle-key (a ∷ b ∷ c ∷ d ∷ e ∷ f ∷ g ∷ i ∷ t) h some few = absurd (omega (arith, few))

-- the key of eight bytes or more
pub long-key : (t : List ℕ) → AreBytes t → 8 ≤ length t
    → from_be_bytes w64 (get_or t 0 0 ∷ get_or t 1 0 ∷ get_or t 2 0 ∷ get_or t 3 0 ∷ get_or t 4 0 ∷ get_or t 5 0 ∷ get_or t 6 0 ∷ get_or t 7 0 ∷ []) / 256 * 256 + 8 ≡ head_key 7 t
unfolding head_key
long-key [] h many = absurd (omega (arith, many))
long-key (a ∷ []) h many = absurd (omega (arith, many))
long-key (a ∷ b ∷ []) h many = absurd (omega (arith, many))
long-key (a ∷ b ∷ c ∷ []) h many = absurd (omega (arith, many))
long-key (a ∷ b ∷ c ∷ d ∷ []) h many = absurd (omega (arith, many))
long-key (a ∷ b ∷ c ∷ d ∷ e ∷ []) h many = absurd (omega (arith, many))
long-key (a ∷ b ∷ c ∷ d ∷ e ∷ f ∷ []) h many = absurd (omega (arith, many))
long-key (a ∷ b ∷ c ∷ d ∷ e ∷ f ∷ g ∷ []) h many = absurd (omega (arith, many))
long-key (a ∷ b ∷ c ∷ d ∷ e ∷ f ∷ g ∷ i ∷ t) h many = omega (arith, h 7)

-- the powers grow from 1
powers : (n : ℕ) → 1 ≤ 256 ^ n
powers zero = omega arith
powers (suc n) = omega (arith, powers n)

-- a digit below another, so many places from the end
digit-below : (x y p : ℕ) → x < y → x * p + p ≤ y * p
digit-below x y p h =
    let scaled : suc x * p ≤ y * p = mul-le-mul_right p h in
    omega (arith, scaled)

-- a key stays below the next power, with some room
key-small : (n : ℕ) (t : List ℕ) → AreBytes t → head_key n t + 254 ≤ 256 ^ suc n + n
unfolding head_key
key-small zero [] h = omega arith
key-small zero (x ∷ t) h = omega arith
key-small (suc n) [] h = omega (arith, powers n)
key-small (suc n) (x ∷ t) h =
    omega (arith, key-small n t (λ i. h (suc i)), digit-below x 256 (256 ^ suc n) (h zero))

-- the digits after a first one are worth less than one more of it
key-below : (n : ℕ) (t : List ℕ) → n < 254 → AreBytes t → head_key n t < 256 ^ suc n
key-below n t few h = omega (arith, few, key-small n t h)

-- a lesser first digit makes a lesser key
first-below : (n x y : ℕ) (s t : List ℕ) → n < 254 → AreBytes s → x < y → head_key (suc n) (x ∷ s) < head_key (suc n) (y ∷ t)
unfolding head_key
first-below n x y s t few h less = omega (arith, key-below n s few h, digit-below x y (256 ^ suc n) less)

-- after the same first digit the rest tells
rest-key : (n x y : ℕ) (s t : List ℕ) → x ≡ y → head_key (suc n) (x ∷ s) + head_key n t ≡ head_key (suc n) (y ∷ t) + head_key n s
unfolding head_key
rest-key n x y s t e = let worth : x * 256 ^ suc n ≡ y * 256 ^ suc n = ap (λ z. z * 256 ^ suc n) e in omega (arith, worth)

digits-less : (x y : ℕ) → x < y → nat_cmp x y ≡ Less
digits-less x y h = rw (lt-ltb x y h) refl

digits-same : (x y : ℕ) → x ≡ y → nat_cmp x y ≡ Equal
digits-same x y e = subst (λ z. nat_cmp x z ≡ Equal) e (tied_itself nat_cmp_total x)

-- a lesser key is of a lesser text
less-key : (n : ℕ) (a b : List ℕ) → n < 254 → AreBytes a → AreBytes b → head_key n a < head_key n b → slice_cmp nat_cmp a b ≡ Less
unfolding head_key
less-key zero [] [] few p q h = absurd (omega (arith, h))
less-key zero [] (y ∷ b) few p q h = refl
less-key zero (x ∷ a) [] few p q h = absurd (omega (arith, h))
less-key zero (x ∷ a) (y ∷ b) few p q h = absurd (omega (arith, h))
less-key (suc n) [] [] few p q h = absurd (omega (arith, h))
less-key (suc n) [] (y ∷ b) few p q h = refl
less-key (suc n) (x ∷ a) [] few p q h = absurd (omega (arith, h))
less-key (suc n) (x ∷ a) (y ∷ b) few p q h =
    let fewer : n < 254 = omega (arith, few) in
    elim (cases_order x y) [
      | inl e ↦
          ap (λ o. ordering_then o (slice_cmp nat_cmp a b)) (digits-same x y e)
          ∙ less-key n a b fewer (λ i. p (suc i)) (λ i. q (suc i)) (omega (arith, h, rest-key n x y a b e))
      | inr apart ↦ elim apart [
        | inl less ↦ ap (λ o. ordering_then o (slice_cmp nat_cmp a b)) (digits-less x y less)
        | inr more ↦ absurd (omega (arith, h, first-below n y x b a fewer (λ i. q (suc i)) more))
      ]
    ]

-- a short text is the only one that has its key
same-key : (n : ℕ) (a b : List ℕ) → n < 254 → AreBytes a → AreBytes b → length a ≤ n → head_key n a ≡ head_key n b → a ≡ b
unfolding head_key
same-key zero [] [] few p q short h = refl
same-key zero [] (y ∷ b) few p q short h = absurd (omega (arith, h))
same-key zero (x ∷ a) b few p q short h = absurd (omega (arith, short))
same-key (suc n) [] [] few p q short h = refl
same-key (suc n) [] (y ∷ b) few p q short h = absurd (omega (arith, h))
same-key (suc n) (x ∷ a) [] few p q short h = absurd (omega (arith, h))
same-key (suc n) (x ∷ a) (y ∷ b) few p q short h =
    let fewer : n < 254 = omega (arith, few) in
    elim (cases_order x y) [
      | inl e ↦
          let rest : a ≡ b = same-key n a b fewer (λ i. p (suc i)) (λ i. q (suc i)) (omega (arith, short)) (omega (arith, h, rest-key n x y a b e)) in
          λ i. e i ∷ rest i
      | inr apart ↦ elim apart [
        | inl less ↦ absurd (omega (arith, h, first-below n x y a b fewer (λ i. p (suc i)) less))
        | inr more ↦ absurd (omega (arith, h, first-below n y x b a fewer (λ i. q (suc i)) more))
      ]
    ]

module _ (text bound : List ℕ) (key bound-key : ℕ) (k : IsKey text key) (l : IsKey bound bound-key) where
  -- the keys in place of the texts
  below-key : bound-key < key → head_key 7 bound < head_key 7 text
  below-key h = omega (arith, h, k.is, l.is)

  above-key : key < bound-key → head_key 7 text < head_key 7 bound
  above-key h = omega (arith, h, k.is, l.is)

  reached-below : bound-key < key → is_reached text bound ≡ true
  reached-below h = ap (λ o. not (is_gt o)) (less-key 7 bound text (omega arith) l.bytes k.bytes (below-key h))

  reached-above : key < bound-key → is_reached text bound ≡ false
  reached-above h =
      ap (λ o. not (is_gt o))
      (nat_list_cmp_total.antisymm bound text ∙ ap ordering_reverse (less-key 7 text bound (omega arith) k.bytes l.bytes (above-key h)))

  -- where the keys differ, they tell whether the boundary is reached
  pub reached-apart : (bound-key ≡ key → ⊥) → nat_lt bound-key key ≡ is_reached text bound
  reached-apart differ =
      elim (cases_order bound-key key) [
        | inl e ↦ absurd (differ e)
        | inr apart ↦ elim apart [
          | inl less ↦ lt-ltb _ _ less ∙ sym (reached-below less)
          | inr more ↦ le-ltb _ _ (omega (arith, more)) ∙ sym (reached-above more)
        ]
      ]

  -- those of a short text always do
  pub reached-short : length text < 8 → nat_le bound-key key ≡ is_reached text bound
  reached-short short =
      elim (cases_order bound-key key) [
        | inl e ↦
            let one : text ≡ bound = same-key 7 text bound (omega arith) k.bytes l.bytes (omega (arith, short)) (sym k.is ∙ sym e ∙ l.is) in
            le-leb _ _ (omega (arith, e))
            ∙ sym (ap (λ o. not (is_gt o)) (subst (λ b. slice_cmp nat_cmp b text ≡ Equal) one (tied_itself nat_list_cmp_total text)))
        | inr apart ↦ elim apart [
          | inl less ↦ le-leb _ _ (omega (arith, less)) ∙ sym (reached-below less)
          | inr more ↦ lt-leb _ _ more ∙ sym (reached-above more)
        ]
      ]

-- so as many keys aren't above that of a short text as texts aren't above it
pub short-counts : (text : List ℕ) (key : ℕ) → IsKey text key → length text < 8
    → (bounds : List (List ℕ)) (keys : List ℕ) → length bounds ≤ length keys → AreKeys bounds keys
    → count_by (λ bound. nat_le bound key) (take (length bounds) keys) ≡ count_by (is_reached text) bounds
short-counts text key k short [] keys few h = refl
short-counts text key k short (bound ∷ bounds) [] few h = absurd (omega (arith, few))
short-counts text key k short (bound ∷ bounds) (first ∷ keys) few h =
    let here : nat_le first key ≡ is_reached text bound = reached-short text bound key first k (h zero (omega arith) (omega arith)) short in
    let rest : count_by (λ bound. nat_le bound key) (take (length bounds) keys) ≡ count_by (is_reached text) bounds =
    short-counts text key k short bounds keys (omega (arith, few)) (λ i l m. h (suc i) (omega (arith, l)) (omega (arith, m))) in
    sum_by-cons (λ bound. cond (nat_le bound key) 1 0) first (take (length bounds) keys)
    ∙ ap (λ b. cond b 1 0 + count_by (λ bound. nat_le bound key) (take (length bounds) keys)) here
    ∙ ap (λ n. cond (is_reached text bound) 1 0 + n) rest
    ∙ sym (sum_by-cons (λ bound. cond (is_reached text bound) 1 0) bound bounds)

-- one more key is written
pub keys-more : (texts : List (List ℕ)) (keys : List ℕ) (n key : ℕ) → n < length keys → IsKey (get_or texts n []) key
    → ((i : ℕ) → i < n → IsKey (get_or texts i []) (get_or keys i 0))
    → (i : ℕ) → i < n + 1 → IsKey (get_or texts i []) (get_or (set keys n key) i 0)
keys-more texts keys n key within new h i below =
    elim (cases_lt i n) [
      | inl before ↦ rw (get_or-set_other keys n i key 0 (λ e. omega (arith, e, before))) (h i before)
      | inr after ↦
          let last : n ≡ i = omega (arith, after, below) in
          subst (λ j. IsKey (get_or texts j []) (get_or (set keys n key) j 0)) last (rw (get_or-set_same keys n key 0 within) new)
    ]
