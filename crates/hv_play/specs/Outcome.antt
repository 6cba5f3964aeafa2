-- What a play of a script leaves behind: what was read, what was written, and how they belong together.
use Rattle.std.specs.Prelude.{◌≤◌, ℕ, List, [], ◌∷◌, length, Bool, false, Option, Result, Ok, Err, bytes_eq, codes, String, string_bytes}
use Rattle.std.specs.declared.alloc.Global.{Global}
use Rattle.std.specs.Io.KnownBytes.{Appends, Consumes, IsAtEnd}
use Rattle.hv_outer.specs.declared.io_err.IoErr.{IoErr}
use Rattle.hv_outer.specs.declared.io_err.IoErr.TheVariants.{Failed, Memory}
use Rattle.hv_play.specs.Run.{Setting, Ending, IsTrace}

-- whether the words are just `play`
abbrev pub is_play : List (String Global) → Bool
is_play [] = false
is_play (word ∷ []) = bytes_eq (string_bytes word) (codes "play")
is_play (word ∷ more ∷ words) = false

-- the status after the lines and the drain
abbrev pub status_after : Result (Unit {0}) IoErr → ℕ
status_after (Ok _) = 0
status_after (Err Failed) = 4
status_after (Err Memory) = 5

-- a script of at most 64 MiB was read to its end, and an output was written that is right for it in the setting
pub record Traced (g : Setting) (ending : Ending) (left left' taken taken' : Option (List ℕ)) : Type 0 where
  pub script : List ℕ
  pub output : List ℕ
  pub read : Consumes left left' script
  pub ended : IsAtEnd left'
  pub short : length script ≤ 67108864
  pub written : Appends taken taken' output
  pub right : IsTrace g ending script output
