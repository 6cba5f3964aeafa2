-- The lines of a script and what each of them asks for: this project's own rule.
use Rattle.std.specs.Prelude.{ℕ, ◌==◌, List, [], ◌∷◌, ◌++◌, Bool, true, false, not, ◌&&◌, ◌||◌, nat_lt, nat_le, is_some, if◌then◌else◌, Option, Some, None, option_and_then, codes}
use Rattle.std.specs.Option.{option_map_or}
use Rattle.std.specs.Str.{is_utf8}
use Rattle.serde_json.specs.Data.{Data, Num, unsigned, negative, float}
use Rattle.serde_json.specs.Find.{get, as_number, as_object, as_u64}
use Rattle.serde_json.specs.Read.{read}
use Rattle.serde_json.specs.Written.{compact_text, has_float}
use Rattle.hv_asked.specs.Fields.{text_at}
use Rattle.hv_play.specs.declared.entry.BadLine.{BadLine}
use Rattle.hv_play.specs.declared.entry.BadLine.TheVariants as bad_line

-- ---- lines

-- the bytes after the last newline are a line where there are any
abbrev pub last_line : List ℕ → List (List ℕ)
last_line [] = []
last_line (b ∷ line) = (b ∷ line) ∷ []

-- the lines of bytes that follow the bytes of a line which has begun
abbrev pub lines_after : List ℕ → List ℕ → List (List ℕ)
lines_after line [] = last_line line
lines_after line (b ∷ rest) = if b == 10 then line ∷ lines_after [] rest else lines_after (line ++ b ∷ []) rest

-- a script's lines: it is split at newlines
unfoldable pub script_lines : List ℕ → List (List ℕ)
script_lines script = lines_after [] script

-- ---- the value of a line

abbrev pub is_object : Data → Bool
is_object value = is_some (as_object value)

-- the value of a line's bytes, where they are the text of one
abbrev pub value_of_line : List ℕ → Option Data
value_of_line bytes = if is_utf8 bytes then read bytes else None

-- ---- the forms of a line

-- the whole number of 64 bits under a key, which isn't negative
abbrev pub whole_at : List ℕ → Data → Option ℕ
whole_at key value = option_and_then as_u64 (option_and_then as_number (get key value))

-- the session that a line names: there are 16, numbered from 0
abbrev pub session_in : Data → Option ℕ
session_in value = option_and_then (λ s. if nat_lt s 16 then Some s else None) (whole_at (codes "s") value)

-- an object whose compact text is exact: it holds no number but those of 64 bits
abbrev pub exact_object : Data → Option Data
exact_object value = if is_object value && not (has_float value) then Some value else None

-- the message that a line brings
abbrev pub message_in_line : Data → Option Data
message_in_line value = option_and_then exact_object (get (codes "msg") value)

-- the text that a session is to hear: the compact text of the message, or else the text that stands there raw
abbrev pub text_or_raw : Data → Option Data → Option (List ℕ)
text_or_raw value None = text_at (codes "raw") value
text_or_raw value (Some message) = Some (compact_text message)

abbrev pub text_in_line : Data → Option (List ℕ)
text_in_line value = text_or_raw value (message_in_line value)

-- ---- a line of no form

-- whether a number is a whole one that is no session's
abbrev pub is_outside : Num → Bool
is_outside (unsigned n) = nat_le 16 n
is_outside (negative n) = true
is_outside (float x) = false

abbrev pub outside_at : List ℕ → Data → Bool
outside_at key value = option_map_or is_outside (option_and_then as_number (get key value)) false

-- why a value of no form is a bad line
abbrev pub why_bad : Data → BadLine
why_bad value =
    if not (is_object value) then bad_line.Json
    else if outside_at (codes "s") value || outside_at (codes "poll") value then bad_line.Session
    else bad_line.Line

-- ---- what a line asks for

-- an empty line asks for nothing; a bad one is answered so; else a session, by its number, hears a text
pub data Line : Type 0 where
  empty : Line
  bad : BadLine → Line
  hears : ℕ → List ℕ → Line

-- a line of the form that has a session and a text
abbrev pub line_of_form : BadLine → Option ℕ → Option (List ℕ) → Line
line_of_form why None text = bad why
line_of_form why (Some s) None = bad why
line_of_form why (Some s) (Some text) = hears s text

abbrev pub line_of_value : Option Data → Line
line_of_value None = bad bad_line.Json
line_of_value (Some value) = line_of_form (why_bad value) (session_in value) (text_in_line value)

-- what the bytes of a line ask for
abbrev pub line_of : List ℕ → Line
line_of [] = empty
line_of (b ∷ bytes) = line_of_value (value_of_line (b ∷ bytes))
