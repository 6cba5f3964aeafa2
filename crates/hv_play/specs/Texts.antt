-- The texts of output lines: compact JSON as the crate serde_json prints it, keys in byte order. This project's own rule.
use Rattle.std.specs.Prelude.{ℕ, List, [], ◌∷◌, ◌++◌, codes}
use Rattle.serde_json.specs.Data.{Data, string, object, member, no_members}
use Rattle.serde_json.specs.Written.{compact_text}
use Rattle.hv_reply.specs.Replies.{reply_data}
use Rattle.hv_reply.specs.Values.{whole}
use Rattle.hv_play.specs.declared.entry.BadLine.{BadLine}
use Rattle.hv_play.specs.declared.entry.BadLine.TheVariants.{Json, Session, Line}
use Rattle.hv_play.specs.declared.entry.Entry.{Entry}
use Rattle.hv_play.specs.declared.entry.What.{What}
use Rattle.hv_play.specs.declared.entry.What.TheVariants.{Out, Bad}

-- why a line is bad, in a word
abbrev pub bad_word : BadLine → List ℕ
bad_word Json = codes "json"
bad_word Session = codes "session"
bad_word Line = codes "line"

abbrev pub line_data : ℕ → What → Data
line_data line (Out session reply) = object (member (codes "line") (whole line)
    (member (codes "out") (reply_data reply)
    (member (codes "s") (whole session) no_members)))
line_data line (Bad bad) = object (member (codes "bad") (string (bad_word bad)) (member (codes "line") (whole line) no_members))

-- an output line with its newline
unfoldable pub entry_text : Entry → List ℕ
entry_text entry = compact_text (line_data entry.line entry.what) ++ 10 ∷ []

-- output lines, one after another
abbrev pub entries_text : List Entry → List ℕ
entries_text [] = []
entries_text (entry ∷ entries) = entry_text entry ++ entries_text entries
