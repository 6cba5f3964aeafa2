-- Tests of a text: this project's own rule, over the default case folding that the crate caseless defines.
use Rattle.std.specs.Prelude.{ℕ, List, [], ◌∷◌, length, take, Bool, ◌||◌, bytes_eq, chars, encode_utf8_all, if◌then◌else◌}
use Rattle.caseless.specs.Caseless.{default_case_fold}
use Rattle.hv_expr.specs.declared.text_test.How.{How}
use Rattle.hv_expr.specs.declared.text_test.How.TheVariants as how
use Rattle.hv_expr.specs.declared.text_test.TextTest.{TextTest}

-- whether a text begins with a piece
abbrev pub begins_with : List ℕ → List ℕ → Bool
begins_with piece text = bytes_eq (take (length piece) text) piece

-- whether a piece stands somewhere in a text: where the text begins with it, or the rest of the text contains it
abbrev pub contains : List ℕ → List ℕ → Bool
contains piece [] = begins_with piece []
contains piece (byte ∷ rest) = begins_with piece (byte ∷ rest) || contains piece rest

-- whether a text compares so with a piece, byte for byte
abbrev pub matches : How → List ℕ → List ℕ → Bool
matches how.Equals piece text = bytes_eq text piece
matches how.Contains piece text = contains piece text
matches how.Begins piece text = begins_with piece text

-- a text after default case folding
unfoldable pub folded : List ℕ → List ℕ
folded text = encode_utf8_all (default_case_fold (chars text))

-- whether a text meets a test; where the test folds, both sides are folded first
abbrev pub meets : TextTest → List ℕ → Bool
meets test text = if test.fold then matches test.how (folded test.text) (folded text) else matches test.how test.text text
