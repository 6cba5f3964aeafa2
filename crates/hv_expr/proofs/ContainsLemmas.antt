-- A text contains a piece where the piece occurs at some place of it.
use Rattle.std.proofs.Common.{◌≡◌, ℕ, zero, suc, ◌+◌, Bool, true, false, ◌||◌, List, [], ◌∷◌, length, take, Option, Some, None, is_some, refl, sym, ap, inl, inr, arith, length-take}
use Rattle.std.proofs.lemmas.Bool.{cases_Bool}
use Rattle.std.proofs.lemmas.Slice.Eq.{bytes_eq-Decides}
use Rattle.memchr.specs.Find.{OccursAt, FindsNeedle}
use Rattle.memchr.proofs.lemmas.MatchLemmas.{OccursAt-part, OccursAt-from_part}
use Rattle.hv_expr.specs.TextTests.{begins_with, contains}

-- at the front
begins-occurs : (piece text : List ℕ) → begins_with piece text ≡ true → OccursAt text piece 0
begins-occurs piece text e =
    let part : take (length piece) text ≡ piece = (bytes_eq-Decides (take (length piece) text) piece).0 e in
    let same : length (take (length piece) text) ≡ length piece = ap length part in
    OccursAt-from_part text piece 0 (omega (arith, length-take (length piece) text, same)) part

occurs-begins : (piece text : List ℕ) → OccursAt text piece 0 → begins_with piece text ≡ true
occurs-begins piece text h = (bytes_eq-Decides (take (length piece) text) piece).1 (OccursAt-part text piece 0 h)

-- one place later in a text with one more byte
occurs-later : (piece rest : List ℕ) (byte k : ℕ) → OccursAt rest piece k → OccursAt (byte ∷ rest) piece (suc k)
occurs-later piece rest byte k h = record {
  fits = omega (arith, h.fits);
  reads = λ j l. (let place : suc k + j ≡ suc (k + j) = omega arith in rw place (h.reads j l));
}

occurs-earlier : (piece rest : List ℕ) (byte k : ℕ) → OccursAt (byte ∷ rest) piece (suc k) → OccursAt rest piece k
occurs-earlier piece rest byte k h = record {
  fits = omega (arith, h.fits);
  reads = λ j l. (let place : suc k + j ≡ suc (k + j) = omega arith in rw place at (h.reads j l));
}

or_true : (a b : Bool) → b ≡ true → (a || b) ≡ true
or_true true b e = refl
or_true false b e = e

occurs-contains : (piece text : List ℕ) (k : ℕ) → OccursAt text piece k → contains piece text ≡ true
occurs-contains piece [] zero h = occurs-begins piece [] h
occurs-contains piece [] (suc k) h = absurd (omega (arith, h.fits))
occurs-contains piece (byte ∷ rest) zero h = rw (occurs-begins piece (byte ∷ rest) h) refl
occurs-contains piece (byte ∷ rest) (suc k) h =
    or_true (begins_with piece (byte ∷ rest)) (contains piece rest) (occurs-contains piece rest k (occurs-earlier piece rest byte k h))

contains-occurs : (piece text : List ℕ) → contains piece text ≡ true → (k : ℕ) × OccursAt text piece k
contains-occurs piece [] e = (0, begins-occurs piece [] e)
contains-occurs piece (byte ∷ rest) e = by (begins_with piece (byte ∷ rest)) refl (contains-occurs piece rest) e
  where
    by : (b : Bool) → begins_with piece (byte ∷ rest) ≡ b → (contains piece rest ≡ true → (k : ℕ) × OccursAt rest piece k) → (b || contains piece rest) ≡ true → (k : ℕ) × OccursAt (byte ∷ rest) piece k
    by true begins later e = (0, begins-occurs piece (byte ∷ rest) begins)
    by false begins later e = let there = later e in (suc there.0, occurs-later piece rest byte there.0 there.1)

-- a search finds a place exactly where the text contains the piece
pub contains-found : (piece text : List ℕ) (found : Option ℕ) → FindsNeedle text piece 0 found → is_some found ≡ contains piece text
contains-found piece text None h = elim (cases_Bool (contains piece text)) [
  | inl e ↦ (let there = contains-occurs piece text e in absurd (h there.0 (omega arith) (omega (arith, there.1.fits)) there.1))
  | inr e ↦ sym e
]
contains-found piece text (Some k) h = sym (occurs-contains piece text k h.1)
