-- The records that a reader over a slice has left.
use Rattle.std.specs.Borrow.{Bor}
use Rattle.std.specs.Prelude.{ℕ, ◌+◌, ◌≡◌, Bool, true, false, List, [], ◌∷◌, length, Option, Some, unwrap_or}
use Rattle.csv.specs.Reading.{Ready, default_config, is_flexible, reader_config, reader_state, reader_trim, records_from, source_of}
use Rattle.csv.specs.declared.parser.State.{State}
use Rattle.csv.specs.declared.reader.Reader.{Reader}
use Rattle.csv.specs.declared.reader.Trim.TheVariants as trim

-- the bytes that a reader has left, where those are known
abbrev pub bytes_left : Reader (Bor (List ℕ)) → Option (List ℕ)
bytes_left reader = source_of (λ slice. Some slice.now) reader

-- a reader's next read gives one record of bytes that are known, of any length, untrimmed, in csv's default dialect
pub record IsSetUp (reader : Reader (Bor (List ℕ))) : Type 0 where
  pub ready : Ready reader
  pub untrimmed : reader_trim reader ≡ trim.None
  pub flexible : is_flexible reader ≡ true
  pub dialect : reader_config reader ≡ default_config
  pub bytes : List ℕ
  pub known : bytes_left reader ≡ Some bytes

-- all records of a text from a state: it has fewer than its length and two
abbrev pub records_in : State → List ℕ → List (List (List ℕ))
records_in state bytes = records_from default_config (length bytes + 2) state bytes

-- the records that a reader has left
unfoldable pub records_left : Reader (Bor (List ℕ)) → List (List (List ℕ))
records_left reader = records_in (reader_state reader) (unwrap_or (bytes_left reader) [])

-- a read found the first of the records before, and leaves the others, or there was none
abbrev pub IsNext : Bool → List (List (List ℕ)) → List (List ℕ) → List (List (List ℕ)) → Type 0
IsNext true before fields after = before ≡ fields ∷ after
IsNext false before fields after = before ≡ []
