-- What is written to a sink, or read from a source, in several turns.
use Rattle.std.specs.Prelude.{◌≡◌, ℕ, ◌<◌, ◌≤◌, List, ◌++◌, length, Option}
use Rattle.std.specs.Io.KnownBytes.{Appends, Consumes}
use Rattle.hv_outer.specs.declared.io_err.IoErr.{IoErr}
use Rattle.hv_outer.specs.declared.io_err.IoErr.TheVariants.{Failed as IoFailed, Memory as IoMemory}
use Rattle.hv_outer.specs.declared.turns.ReadAllErr.{ReadAllErr}
use Rattle.hv_outer.specs.declared.turns.ReadAllErr.TheVariants.{Failed, Memory}

-- a front of these bytes was appended to what was taken
pub record AppendsFront (before now : Option (List ℕ)) (bytes : List ℕ) : Type 0 where
  pub front : List ℕ
  pub rest : List ℕ
  pub split : front ++ rest ≡ bytes
  pub appended : Appends before now front

-- some bytes were read
pub record ReadsSome (before now : Option (List ℕ)) : Type 0 where
  pub bytes : List ℕ
  pub read : Consumes before now bytes

-- no more bytes than the limit were read
pub record ReadsWithin (before now : Option (List ℕ)) (limit : ℕ) : Type 0 where
  pub bytes : List ℕ
  pub read : Consumes before now bytes
  pub within : length bytes ≤ limit

-- more bytes than the limit were read
pub record ReadsPast (before now : Option (List ℕ)) (limit : ℕ) : Type 0 where
  pub bytes : List ℕ
  pub read : Consumes before now bytes
  pub past : limit < length bytes

-- what a whole read answers where a turn failed
abbrev pub read_all_err : IoErr → ReadAllErr
read_all_err IoFailed = Failed
read_all_err IoMemory = Memory
