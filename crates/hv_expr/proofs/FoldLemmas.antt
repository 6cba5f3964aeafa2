-- Texts that match by default caseless matching are those whose folded texts are equal.
use Rattle.std.proofs.Common.{◌≡◌, ℕ, Bool, List, chars, encode_utf8_all, IsTrue, ◌↔◌, sym, ap}
use Rattle.std.specs.Prelude.{bytes_eq}
use Rattle.std.specs.Bool.{one_answer}
use Rattle.std.proofs.lemmas.Slice.Eq.{bytes_eq-Decides}
use Rattle.std.proofs.lemmas.Str.{encodes_same}
use Rattle.caseless.specs.Caseless.{default_case_fold, IsDefaultMatch}
use Rattle.hv_expr.specs.TextTests.{folded}

pub same_when_folded : (own text : List ℕ) (same : Bool) → (IsTrue same ↔ IsDefaultMatch (chars own) (chars text))
    → same ≡ bytes_eq (folded text) (folded own)
unfolding folded
same_when_folded own text same match =
    let both = bytes_eq-Decides (folded text) (folded own) in
    one_answer same (bytes_eq (folded text) (folded own)) (
      λ yes. sym (ap encode_utf8_all (match.0 yes)),
      λ e. match.1 (sym (encodes_same (default_case_fold (chars text)) (default_case_fold (chars own)) e)),
    ) both
