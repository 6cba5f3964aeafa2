-- A product of two numbers, each cut at a limit, and cut itself.
use Rattle.std.proofs.Common.{◌≡◌, ◌∙◌, refl, sym, ap, ℕ, zero, suc, ◌*◌, ◌≤◌, Bool, true, false, arith}
use Rattle.std.specs.Prelude.{min, nat_le}
use Rattle.std.proofs.Math.Nat.{le-mul_of_pos_right, mul_comm}
use Rattle.std.proofs.lemmas.Bool.{leb-true, leb-false}

-- a number past the limit is cut at it
cut_past : (n x : ℕ) → n ≤ x → min x n ≡ n
cut_past n x past = omega (arith, past)

-- one of them is past the limit
one_past : (a b n : ℕ) → n ≤ a → min (min a n * min b n) n ≡ min (a * b) n
one_past a b zero past = omega arith
one_past a zero (suc n) past = grind arith
one_past a (suc b) (suc n) past = rw (cut_past (suc n) a past) (cut_past (suc n) (suc n * min (suc b) (suc n)) cut ∙ sym (cut_past (suc n) (a * suc b) whole))
  where
    cut : suc n ≤ suc n * min (suc b) (suc n)
    cut = le-mul_of_pos_right (suc n) (omega arith)

    whole : suc n ≤ a * suc b
    whole = omega (arith, past, le-mul_of_pos_right {m = suc b} a (omega arith))

pub cut_product : (a b n : ℕ) → min (min a n * min b n) n ≡ min (a * b) n
cut_product a b n = by (nat_le n a) (nat_le n b) refl refl
  where
    by : (s t : Bool) → nat_le n a ≡ s → nat_le n b ≡ t → min (min a n * min b n) n ≡ min (a * b) n
    by true t past is = one_past a b n (leb-true n a past)
    by false true is past =
        ap (λ p. min p n) (mul_comm (min a n) (min b n)) ∙ one_past b a n (leb-true n b past) ∙ ap (λ p. min p n) (mul_comm b a)
    by false false first second =
        let uncut : min a n ≡ a = omega (arith, leb-false n a first) in
        let whole : min b n ≡ b = omega (arith, leb-false n b second) in
        rw uncut (rw whole refl)
