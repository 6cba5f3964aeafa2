-- The test of sameness is true exactly of a value and itself.
use base.Stored.{Gv, gnil, gnum, gcons, Coded}
use mathlib.Core.Bool.{true≢false}
use Rattle.std.specs.Prelude.{◌≡◌, ◌↔◌, refl, Bool, true, IsTrue}
use Rattle.std.specs.Bool.{Decides, one_answer}
use Rattle.std.specs.Cmp.{IsEquivalence, both_ways, first_so, second_so}
use Rattle.std.specs.Cmp.Derive.{both_true}
use Rattle.std.proofs.Common.{ap, sym, subst, ◌∙◌}
use Rattle.std.proofs.lemmas.Bool.Decides.{Decides-eqb}
use Rattle.hv_value.specs.Same.{same_code, same_by}

-- a test that decides sameness is an equivalence
pub equiv_from_decides : {A : Type 0} (E : A → A → Bool) → ((x y : A) → Decides (E x y) (x ≡ y)) → IsEquivalence E
equiv_from_decides E d = record {
  refl = λ x. (d x x).1 refl;
  symm = λ x y. both_ways (E x y) (E y x) (λ e. (d y x).1 (sym ((d x y).0 e))) (λ e. (d x y).1 (sym ((d y x).0 e)));
  congr = λ x y z e. ap (λ w. E w z) ((d x y).0 e);
}

-- a code is the same as itself
same_code-self : (x : Gv) → same_code x x ≡ true
same_code-self gnil = refl
same_code-self (gnum n) = (Decides-eqb n n).1 refl
same_code-self (gcons a b) = both_true (same_code-self a) (same_code-self b)

-- codes that pass the test are the same
same_code-true : (x y : Gv) → same_code x y ≡ true → x ≡ y
same_code-true gnil gnil e = refl
same_code-true gnil (gnum n) e = absurd (true≢false (sym e))
same_code-true gnil (gcons c d) e = absurd (true≢false (sym e))
same_code-true (gnum m) gnil e = absurd (true≢false (sym e))
same_code-true (gnum m) (gnum n) e = ap gnum ((Decides-eqb m n).0 e)
same_code-true (gnum m) (gcons c d) e = absurd (true≢false (sym e))
same_code-true (gcons a b) gnil e = absurd (true≢false (sym e))
same_code-true (gcons a b) (gnum n) e = absurd (true≢false (sym e))
same_code-true (gcons a b) (gcons c d) e =
    let left = same_code-true a c (first_so (same_code a c) (same_code b d) e) in
    let right = same_code-true b d (second_so (same_code a c) (same_code b d) e) in
    ap (λ x. gcons x b) left ∙ ap (gcons c) right

module _ {A : Type 0} (c : Coded A) where
  -- the test is true only of the same value
  pub same_by-true : (x y : A) → same_by c x y ≡ true → x ≡ y
  unfolding same_by
  same_by-true x y e = c.inj x y (same_code-true (c.code x) (c.code y) e)

  -- the test is true of a value and itself
  pub same_by-self : (x : A) → same_by c x x ≡ true
  unfolding same_by
  same_by-self x = same_code-self (c.code x)

  -- the test is true exactly of a value and itself
  pub same_by-decides : (x y : A) → Decides (same_by c x y) (x ≡ y)
  same_by-decides x y = (same_by-true x y, λ e. subst (λ z. same_by c x z ≡ true) e (same_by-self x))

  -- so it is an equivalence
  pub same_by-equiv : IsEquivalence (same_by c)
  same_by-equiv = equiv_from_decides (same_by c) same_by-decides

  -- an answer that is true exactly where the values are the same is the test's
  pub same_by-is : (r : Bool) (x y : A) → (IsTrue r ↔ (x ≡ y)) → r ≡ same_by c x y
  same_by-is r x y h = one_answer r (same_by c x y) (h.0, h.1) (same_by-decides x y)
