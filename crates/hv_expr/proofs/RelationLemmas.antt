-- Texts are equal where they compare as equal.
use Rattle.std.proofs.Common.{◌≡◌, ℕ, List, not, refl, ap, sym, ◌∙◌, bytes_eq}
use Rattle.std.specs.Cmp.Lexicographic.{slice_cmp}
use Rattle.std.specs.Ordering.{is_eq, is_ne, nat_cmp}
use Rattle.std.specs.declared.cmp.Ordering.{Ordering}
use Rattle.std.specs.declared.cmp.Ordering.TheVariants.{Less, Equal, Greater}
use Rattle.std.proofs.lemmas.Map.Text.{is_eq-slice_cmp}

is_ne-not : (order : Ordering) → is_ne order ≡ not (is_eq order)
is_ne-not Less = refl
is_ne-not Equal = refl
is_ne-not Greater = refl

pub equal_texts : (xs ys : List ℕ) → bytes_eq xs ys ≡ is_eq (slice_cmp nat_cmp xs ys)
equal_texts xs ys = sym (is_eq-slice_cmp xs ys)

pub other_texts : (xs ys : List ℕ) → not (bytes_eq xs ys) ≡ is_ne (slice_cmp nat_cmp xs ys)
other_texts xs ys = ap not (equal_texts xs ys) ∙ sym (is_ne-not (slice_cmp nat_cmp xs ys))

pub ruleset orders = (equal_texts, other_texts)
