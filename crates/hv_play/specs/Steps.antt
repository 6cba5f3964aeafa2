-- What the calls that do a line or answer a request have shown, as runs of sessions in a setting.
use Rattle.std.specs.Prelude.{◌≡◌, ℕ, List, [], ◌∷◌, ◌++◌, map, Option}
use Rattle.std.specs.Io.KnownBytes.{Appends}
use Rattle.hv_session.specs.Held.{replies_of}
use Rattle.hv_session.specs.Talk.{Talk}
use Rattle.hv_play.specs.declared.entry.Entry.{Entry}
use Rattle.hv_play.specs.declared.entry.LineAnswer.{LineAnswer}
use Rattle.hv_play.specs.declared.entry.LineAnswer.TheVariants.{Nothing, Bad, Said}
use Rattle.hv_play.specs.Run.{Setting, State, Duty, Event, Runs, Ending, IsTrace, bad_entry, entries_of, out, with_talk}
use Rattle.hv_play.specs.Texts.{entries_text}

-- the state where the sessions have these talks, by number
abbrev pub at : List Talk → State
at talks = record { talks = talks }

-- the output lines of what is said of a script line
abbrev pub entries_by : ℕ → LineAnswer → List Entry
entries_by k Nothing = []
entries_by k (Bad why) = bad_entry k why ∷ []
entries_by k (Said s answer) = map (out k s) (replies_of answer)

-- these duties were done: they showed these lines, and left this state
pub record Shows (g : Setting) (todo : List Duty) (state : State) (entries : List Entry) (next : State) : Type 0 where
  pub events : List Event
  pub runs : Runs g state todo events next []
  pub shown : entries_of events ≡ entries

-- one session has no open request; the others are as they were
pub record OneCloses (s : ℕ) (state next : State) : Type 0 where
  pub talk : Talk
  pub none_open : talk.requests ≡ []
  pub next_is : next ≡ with_talk state s talk

-- from the duties `from` the duties `left` are left, and the lines shown so far are written
pub record DoneSoFar (g : Setting) (from : List Duty) (state : State) (left : List Duty) (next : State)
    (taken taken' : Option (List ℕ)) : Type 0 where
  pub events : List Event
  pub runs : Runs g state from events next left
  pub written : Appends taken taken' (entries_text (entries_of events))

-- from the duties `from` some run shows lines of whose text a front is written
pub record CutShort (g : Setting) (from : List Duty) (state : State) (taken taken' : Option (List ℕ)) : Type 0 where
  pub events : List Event
  pub left : List Duty
  pub last : State
  pub runs : Runs g state from events last left
  pub front : List ℕ
  pub rest : List ℕ
  pub split : entries_text (entries_of events) ≡ front ++ rest
  pub written : Appends taken taken' front

-- an output was written that is right for the script, as a whole or as far as it goes
pub record Wrote (g : Setting) (ending : Ending) (script : List ℕ) (taken taken' : Option (List ℕ)) : Type 0 where
  pub output : List ℕ
  pub written : Appends taken taken' output
  pub right : IsTrace g ending script output
