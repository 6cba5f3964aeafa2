-- Which output is right for a script: a run of duties. A duty is something that is still to be done; one table (`Does`)
-- says for the first duty what it shows, which state it leaves, and which duties come in its place. This project's own rule.
use Rattle.std.specs.Prelude.{◌≡◌, ℕ, ◌+◌, List, [], ◌∷◌, ◌++◌, length, map, get_or, slice_set, replicate, Bool, nat_lt, if◌then◌else◌, Option, Some, None, option_to_list}
use Rattle.std.specs.List.{list_any}
use Rattle.hv_lineage.specs.Flat.{Told}
use Rattle.hv_member.specs.Sets.{numbers}
use Rattle.hv_pick.specs.Word.{word_of}
use Rattle.hv_reply.specs.declared.reply.Reply.{Reply}
use Rattle.hv_session.specs.declared.request.OpenRequest.{OpenRequest}
use Rattle.hv_session.specs.Talk.{Talk, Due, Manner, new_talk, Hears, Says, request_with, Closes}
use Rattle.hv_play.specs.declared.entry.BadLine.{BadLine}
use Rattle.hv_play.specs.declared.entry.Entry.{Entry}
use Rattle.hv_play.specs.declared.entry.What.TheVariants as what
use Rattle.hv_play.specs.Script.{Line, empty, bad, hears, line_of, script_lines}
use Rattle.hv_play.specs.Texts.{entries_text}

-- what doesn't change during a run: how many sessions there are, numbered from 0, and of each the tables of its catalog
-- with what is told of their contents, and the words from which it draws its seeds
pub record Setting : Type 0 where
  pub sessions : ℕ
  pub manner : ℕ → Manner

-- a setting of so many sessions over catalogs of no tables, each of which draws its seeds from the words of seed 0 on the
-- stream of its number
pub record Suits (g : Setting) (sessions : ℕ) : Type 0 where
  pub many : g.sessions ≡ sessions
  pub no_tables : (s : ℕ) → (g.manner s).tables ≡ []
  pub words : (s : ℕ) → (g.manner s).words ≡ word_of 0 s

-- the talks of the sessions, by number
pub record State : Type 0 where
  pub talks : List Talk

abbrev pub start : Setting → State
start g = record { talks = replicate g.sessions new_talk }

abbrev pub talk_of : State → ℕ → Talk
talk_of state s = get_or state.talks s new_talk

-- the state after a session's talk went on
abbrev pub with_talk : State → ℕ → Talk → State
with_talk state s talk = record state { talks = slice_set state.talks s talk }

-- ---- duties

pub data Duty : Type 0 where
  -- the lines from a number on are to be done, and then the drain
  script : ℕ → List (List ℕ) → Duty
  -- the open requests are to be answered, in lines with this number
  drain : ℕ → Duty
  -- a line is to be answered as a bad one
  refusing : ℕ → BadLine → Duty
  -- a session is to hear a text
  hearing : ℕ → ℕ → List ℕ → Duty
  -- a session is to say what it owes
  saying : ℕ → ℕ → Duty
  -- a session is to treat each of its open requests
  ticking : ℕ → ℕ → Duty
  -- a session is to treat the open request with an id
  treating : ℕ → ℕ → ℕ → Duty

-- what a run shows: a session hears a text, or an output line is written
pub data Event : Type 0 where
  comes : ℕ → List ℕ → Event
  written : Entry → Event

-- a reply to a session, in an output line with this number
abbrev pub out : ℕ → ℕ → Reply → Entry
out k s reply = record { line = k; what = what.Out s reply }

-- the answer to a bad line
abbrev pub bad_entry : ℕ → BadLine → Entry
bad_entry k why = record { line = k; what = what.Bad why }

-- the duties of a line
abbrev pub duties_of : ℕ → Line → List Duty
duties_of k empty = []
duties_of k (bad why) = refusing k why ∷ []
duties_of k (hears s text) = hearing k s text ∷ []

-- the duties of a session's tick: one for each open request, in the order in which they were opened
abbrev pub treatings : ℕ → ℕ → List OpenRequest → List Duty
treatings k s requests = map (λ request. treating k s request.id) requests

abbrev pub is_waiting : Talk → Bool
is_waiting talk = nat_lt 0 (length talk.requests)

-- whether any session has an open request
abbrev pub is_anything_open : State → Bool
is_anything_open state = list_any is_waiting state.talks

-- a round of the drain: each session in order ticks
abbrev pub round : Setting → ℕ → List Duty
round g k = map (ticking k) (numbers g.sessions)

-- while any request is open a round is due, and the drain again
abbrev pub drain_duties : Setting → ℕ → State → List Duty
drain_duties g k state = if is_anything_open state then round g k ++ drain k ∷ [] else []

-- ---- the table

-- a step shows this, leaves this state, and puts these duties in the place of its own
pub record Did (event : Option Event) (next : State) (more : List Duty) (event' : Option Event) (next' : State) (more' : List Duty) : Type 0 where
  pub shows : event' ≡ event
  pub leaves : next' ≡ next
  pub brings : more' ≡ more

-- a session says what it owes first, and goes on while it owes an answer
abbrev pub SaysOwed : Manner → State → ℕ → ℕ → List Due → Option Event → State → List Duty → Type 0
SaysOwed m state k s [] event next more = Did None state [] event next more
SaysOwed m state k s (due ∷ later) event next more =
    (reply : Reply) × (talk : Talk) × Says m (due ∷ later) (talk_of state s) reply talk
    × Did (Some (written (out k s reply))) (with_talk state s talk) (saying k s ∷ []) event next more

-- an open request gets its last word; an id that none has is passed over
abbrev pub Treats : Told → State → ℕ → ℕ → Option OpenRequest → Option Event → State → List Duty → Type 0
Treats told state k s None event next more = Did None state [] event next more
Treats told state k s (Some request) event next more =
    (reply : Reply) × (talk : Talk) × Closes told (talk_of state s) request reply talk
    × Did (Some (written (out k s reply))) (with_talk state s talk) [] event next more

-- what the first duty shows, which state it leaves, and which duties come in its place
abbrev pub Does : Setting → State → Duty → Option Event → State → List Duty → Type 0
Does g state (script k []) event next more = Did None state (drain k ∷ []) event next more
Does g state (script k (line ∷ lines)) event next more = Did None state (duties_of k (line_of line) ++ script (k + 1) lines ∷ []) event next more
Does g state (drain k) event next more = Did None state (drain_duties g k state) event next more
Does g state (refusing k why) event next more = Did (Some (written (bad_entry k why))) state [] event next more
Does g state (hearing k s text) event next more =
    (talk : Talk) × Hears (g.manner s).tables (g.manner s).words (talk_of state s) text talk × Did (Some (comes s text)) (with_talk state s talk) (saying k s ∷ []) event next more
Does g state (saying k s) event next more = SaysOwed (g.manner s) state k s (talk_of state s).due event next more
Does g state (ticking k s) event next more = Did None state (treatings k s (talk_of state s).requests) event next more
Does g state (treating k s id) event next more = Treats (g.manner s).told state k s (request_with id (talk_of state s)) event next more

-- ---- runs

-- from a state with these duties: the events that were shown, and the state and the duties that are left
pub data Runs (g : Setting) : State → List Duty → List Event → State → List Duty → Type 0 where
  stays : (state : State) (todo : List Duty) → Runs g state todo [] state todo
  does : (state mid last : State) (duty : Duty) (more todo left : List Duty) (event : Option Event) (later : List Event)
      → Does g state duty event mid more
      → Runs g mid (more ++ todo) later last left
      → Runs g state (duty ∷ todo) (option_to_list event ++ later) last left

-- the output lines among the events
abbrev pub entries_of : List Event → List Entry
entries_of [] = []
entries_of (comes s text ∷ events) = entries_of events
entries_of (written entry ∷ events) = entry ∷ entries_of events

-- ---- right output

-- an output is whole, or it ended early
pub data Ending : Type 0 where
  whole : Ending
  early : Ending

-- a whole output is the text of a run that leaves no duty; one that ended early is a front of the text of some run
abbrev pub IsOutput : Ending → List Entry → List Duty → List ℕ → Type 0
IsOutput whole entries left output = (left ≡ []) × (output ≡ entries_text entries)
IsOutput early entries left output = (rest : List ℕ) × (entries_text entries ≡ output ++ rest)

-- the output is right for the script, as a whole or as far as it goes
pub record IsTrace (g : Setting) (ending : Ending) (script_bytes output : List ℕ) : Type 0 where
  pub events : List Event
  pub last : State
  pub left : List Duty
  pub runs : Runs g (start g) (script 1 (script_lines script_bytes) ∷ []) events last left
  pub is_output : IsOutput ending (entries_of events) left output
