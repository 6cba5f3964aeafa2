-- Where the first line of bytes ends.
use Rattle.std.proofs.Common.{◌≡◌, ◌∙◌, sym, refl, ap, subst, ℕ, zero, suc, ◌+◌, ◌<◌, List, [], ◌∷◌, ◌++◌, length, take, drop, get_or, Bool, true, false, append_assoc, append-nil, add-one, ◌-◌, length-drop, take_all, arith}
use Rattle.std.proofs.lemmas.Bool.{eqb-true}
use Rattle.std.specs.Prelude.{◌==◌, if◌then◌else◌}
use Rattle.std.specs.Prelude.{Option, Some, None, IsUtf8}
use Rattle.std.specs.Str.{is_utf8}
use Rattle.std.proofs.lemmas.Str.{is_utf8-from_IsUtf8, IsUtf8-from_is_utf8}
use Rattle.serde_json.specs.Data.{Data}
use Rattle.serde_json.specs.Read.{read}
use Rattle.hv_play.specs.Script.{empty, bad, hears, lines_after, last_line, script_lines, line_of, line_of_value, line_of_form, why_bad, session_in, text_in_line, value_of_line}

-- the first byte ends the line, or it joins it
ends_line : (b : Bool) (x y : List (List ℕ)) → b ≡ true → (if b then x else y) ≡ x
ends_line b x y e = subst (λ t. (if t then x else y) ≡ x) (sym e) refl

joins_line : (b : Bool) (x y : List (List ℕ)) → b ≡ false → (if b then x else y) ≡ y
joins_line b x y e = subst (λ t. (if t then x else y) ≡ y) (sym e) refl

not_true : (b : Bool) → (b ≡ true → ⊥) → b ≡ false
not_true true never = absurd (never refl)
not_true false never = refl

-- the line goes up to the first newline
pub first_line : (line xs : List ℕ) (k : ℕ) → k < length xs → (get_or xs k 0 == 10) ≡ true → ((m : ℕ) → m < k → (get_or xs m 0 == 10) ≡ true → ⊥)
    → lines_after line xs ≡ (line ++ take k xs) ∷ lines_after [] (drop (suc k) xs)
first_line line [] k within is none = absurd (omega arith)
first_line line (x ∷ rest) zero within is none =
    ends_line (x == 10) (line ∷ lines_after [] rest) (lines_after (line ++ x ∷ []) rest) is ∙ ap (λ l. l ∷ lines_after [] rest) (sym (append-nil line))
first_line line (x ∷ rest) (suc j) within is none =
    joins_line (x == 10) (line ∷ lines_after [] rest) (lines_after (line ++ x ∷ []) rest) (not_true (x == 10) (none 0 (omega arith)))
    ∙ first_line (line ++ x ∷ []) rest j (omega arith) is (λ m less. none (suc m) (omega arith))
    ∙ ap (λ l. l ∷ lines_after [] (drop (suc j) rest)) (append_assoc line (x ∷ []) (take j rest))

-- bytes without a newline are the last line
pub no_newline : (line xs : List ℕ) → ((m : ℕ) → m < length xs → (get_or xs m 0 == 10) ≡ true → ⊥) → lines_after line xs ≡ last_line (line ++ xs)
no_newline line [] none = ap last_line (sym (append-nil line))
no_newline line (x ∷ rest) none =
    joins_line (x == 10) (line ∷ lines_after [] rest) (lines_after (line ++ x ∷ []) rest) (not_true (x == 10) (none 0 (omega arith)))
    ∙ no_newline (line ++ x ∷ []) rest (λ m less. none (suc m) (omega arith))
    ∙ ap last_line (append_assoc line (x ∷ []) rest)

last_of_some : (xs : List ℕ) → 0 < length xs → last_line xs ≡ xs ∷ []
last_of_some [] some = absurd (omega arith)
last_of_some (x ∷ xs) some = refl

-- the same of a script's lines
pub script_lines-split : (xs : List ℕ) (k : ℕ) → k < length xs → (get_or xs k 0 == 10) ≡ true → ((m : ℕ) → m < k → (get_or xs m 0 == 10) ≡ true → ⊥)
    → script_lines xs ≡ take k xs ∷ script_lines (drop (suc k) xs)
unfolding script_lines
script_lines-split xs k within is none = first_line [] xs k within is none

pub script_lines-last : (xs : List ℕ) → 0 < length xs → ((m : ℕ) → m < length xs → (get_or xs m 0 == 10) ≡ true → ⊥) → script_lines xs ≡ xs ∷ script_lines []
unfolding script_lines
script_lines-last xs some none = no_newline [] xs none ∙ last_of_some xs some

newline_first : (rest : List ℕ) → script_lines (10 ∷ rest) ≡ [] ∷ script_lines rest
unfolding script_lines
newline_first rest = refl

pub script_lines-newline : (rest : List ℕ) → 0 < length rest → get_or rest 0 0 ≡ 10 → script_lines rest ≡ [] ∷ script_lines (take (length rest - 1) (drop 1 rest))
script_lines-newline [] some is = absurd (omega arith)
script_lines-newline (b ∷ rest) some is =
    ap (λ x. script_lines (x ∷ rest)) is ∙ newline_first rest ∙ ap (λ bytes. [] ∷ script_lines bytes) (sym (take_all (length (b ∷ rest) - 1) rest (omega arith)))

pub script_lines-nil : script_lines [] ≡ []
unfolding script_lines
script_lines-nil = refl

-- the same where the rest is written as a range up to the end
pub rest_after : (xs : List ℕ) (k : ℕ) → script_lines xs ≡ take k xs ∷ script_lines (drop (suc k) xs)
    → script_lines xs ≡ take k xs ∷ script_lines (take (length xs - (k + 1)) (drop (k + 1) xs))
rest_after xs k e =
    let same : suc k ≡ k + 1 = sym (add-one k) in
    e ∙ ap (λ rest. take k xs ∷ script_lines rest)
    (ap (λ n. drop n xs) same ∙ sym (take_all (length xs - (k + 1)) (drop (k + 1) xs) (simp length-drop (omega arith))))

-- ---- what a line asks for

-- a line without bytes asks for nothing
pub line_of-empty : (line : List ℕ) → (length line == 0) ≡ true → line_of line ≡ empty
line_of-empty [] e = refl
line_of-empty (b ∷ line) e = absurd (omega (arith, eqb-true (length (b ∷ line)) 0 e))

-- another one asks for what its value asks for
pub line_of-value : (line : List ℕ) → (length line == 0) ≡ false → line_of line ≡ line_of_value (value_of_line line)
line_of-value [] e = cc
line_of-value (b ∷ line) e = refl

-- a value without a session, or with nothing for it to hear, is a bad line
pub line_of_value-no_session : (value : Data) → session_in value ≡ None → line_of_value (Some value) ≡ bad (why_bad value)
line_of_value-no_session value none = ap (λ s. line_of_form (why_bad value) s (text_in_line value)) none

pub line_of_value-no_text : (value : Data) (s : ℕ) → session_in value ≡ Some s → text_in_line value ≡ None → line_of_value (Some value) ≡ bad (why_bad value)
line_of_value-no_text value s is none =
    ap (λ o. line_of_form (why_bad value) o (text_in_line value)) is ∙ ap (line_of_form (why_bad value) (Some s)) none

-- one with both asks that the session hears the text
pub line_of_value-heard : (value : Data) (s : ℕ) (text : List ℕ) → session_in value ≡ Some s → text_in_line value ≡ Some text → line_of_value (Some value) ≡ hears s text
line_of_value-heard value s text is says =
    ap (λ o. line_of_form (why_bad value) o (text_in_line value)) is ∙ ap (line_of_form (why_bad value) (Some s)) says

-- the value of a line's bytes is that of their text
there : (b : Bool) (x : Option Data) → b ≡ true → (if b then x else None) ≡ x
there b x e = subst (λ t. (if t then x else None) ≡ x) (sym e) refl

pub value_of_line-text : (line : List ℕ) → IsUtf8 line → value_of_line line ≡ read line
value_of_line-text line text = there (is_utf8 line) (read line) (is_utf8-from_IsUtf8 line text)

-- there is none where the bytes are no text, or a text that isn't JSON
none_by : (b : Bool) (x : Option Data) → (b ≡ true → x ≡ None) → (if b then x else None) ≡ None
none_by true x why = why refl
none_by false x why = refl

pub value_of_line-none : (line : List ℕ) → (IsUtf8 line → read line ≡ None) → value_of_line line ≡ None
value_of_line-none line why = none_by (is_utf8 line) (read line) (λ is. why (IsUtf8-from_is_utf8 line is))
