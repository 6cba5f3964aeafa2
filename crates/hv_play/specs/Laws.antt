-- What the laws of runs speak of.
use Rattle.std.specs.Prelude.{◌≡◌, ◌==◌, ◌<◌, ℕ, ◌+◌, List, [], ◌∷◌, ◌++◌, length, flat_map, if◌then◌else◌}
use Rattle.std.specs.Prelude.{◌≤◌, Option, Some, None}
use Rattle.std.specs.List.{filter}
use Rattle.hv_message.specs.Messages.{makes, samples, tells, views, cancels, ends, Reading, means, malformed, reading}
use Rattle.hv_reply.specs.declared.reply.Reply.{Reply}
use Rattle.hv_reply.specs.declared.reply.Reply.TheVariants as reply
use Rattle.hv_session.specs.declared.request.OpenRequest.{OpenRequest}
use Rattle.hv_session.specs.Talk.{Talk, new_talk, known, Hearing, served, refused, Due, answers, making, ending, Manner, Spoken, incoming, outgoing, Talks}
use Rattle.hv_play.specs.declared.entry.Entry.{Entry}
use Rattle.hv_play.specs.declared.entry.What.{What}
use Rattle.hv_play.specs.declared.entry.What.TheVariants.{Out, Bad}
use Rattle.hv_play.specs.Run.{Setting, State, Duty, script, Event, comes, written, Runs, start, talk_of, entries_of, Ending, whole, IsTrace}
use Rattle.hv_play.specs.Script.{Line, empty, bad, hears, line_of, script_lines}

-- some run from the start shows just these output lines for the script, whatever it leaves to be done
pub record ShowsLines (g : Setting) (script_bytes : List ℕ) (entries : List Entry) : Type 0 where
  pub events : List Event
  pub last : State
  pub left : List Duty
  pub runs : Runs g (start g) (script 1 (script_lines script_bytes) ∷ []) events last left
  pub shown : entries_of events ≡ entries

-- what an output line says in the talk of a session
abbrev pub spoken_by : ℕ → What → List Spoken
spoken_by s (Out session reply) = if session == s then outgoing reply ∷ [] else []
spoken_by s (Bad why) = []

-- what an event says in the talk of a session
abbrev pub spoken_at : ℕ → Event → List Spoken
spoken_at s (comes session text) = if session == s then incoming text ∷ [] else []
spoken_at s (written entry) = spoken_by s entry.what

-- the texts that a session heard and the replies that it said, in order
abbrev pub spoken : ℕ → List Event → List Spoken
spoken s events = flat_map (spoken_at s) events

-- a run leads the talk of each session from what it was, through what is spoken there, to what it is
abbrev pub LeadsTalks : Type 0
LeadsTalks = (g : Setting) (state last : State) (todo left : List Duty) (events : List Event) (s : ℕ)
    → Runs g state todo events last left → s < length state.talks → Talks (g.manner s) (talk_of state s) (spoken s events) (talk_of last s)

-- in a right output each session's talk is right from its start
abbrev pub HasRightTalks : Type 0
HasRightTalks = (g : Setting) (ending : Ending) (script_bytes output : List ℕ) (s : ℕ) (right : IsTrace g ending script_bytes output)
    → s < g.sessions → Talks (g.manner s) new_talk (spoken s right.events) (talk_of right.last s)

-- ---- what a reader of script and output sees

-- what a script line brings into the talk of a session
abbrev pub brought_by : ℕ → Line → List Spoken
brought_by s empty = []
brought_by s (bad why) = []
brought_by s (hears session text) = if session == s then incoming text ∷ [] else []

-- what the output lines with a number say in the talk of a session
abbrev pub said_at : ℕ → ℕ → List Entry → List Spoken
said_at s k entries = flat_map (λ entry. if entry.line == k then spoken_by s entry.what else []) entries

-- the talk of a session that script lines, from a number on, and output lines show: each script line brings its text,
-- and the output lines with its number answer it; those of the drain come last
abbrev pub seen_talk : ℕ → ℕ → List (List ℕ) → List Entry → List Spoken
seen_talk s k [] entries = said_at s k entries
seen_talk s k (line ∷ lines) entries = brought_by s (line_of line) ++ (said_at s k entries ++ seen_talk s (k + 1) lines entries)

-- in a whole right output the talk of each session is the one that script and output lines show
abbrev pub AreTalksSeen : Type 0
AreTalksSeen = (g : Setting) (script_bytes output : List ℕ) (s : ℕ) (right : IsTrace g whole script_bytes output)
    → spoken s right.events ≡ seen_talk s 1 (script_lines script_bytes) (entries_of right.events)

-- and that talk is right from its start
abbrev pub AreSeenTalksRight : Type 0
AreSeenTalksRight = (g : Setting) (script_bytes output : List ℕ) (s : ℕ) (right : IsTrace g whole script_bytes output) → s < g.sessions
    → Talks (g.manner s) new_talk (seen_talk s 1 (script_lines script_bytes) (entries_of right.events)) (talk_of right.last s)

-- ---- what is left open

-- a whole right output leaves no request of any session open
abbrev pub LeavesNothingOpen : Type 0
LeavesNothingOpen = (g : Setting) (script_bytes output : List ℕ) (s : ℕ) (right : IsTrace g whole script_bytes output)
    → (talk_of right.last s).requests ≡ []

-- ---- openings and last words

-- the id of the request that a text opens: a message that asks for a view, where it was served
abbrev pub opened_by : Reading → Hearing → Option ℕ
opened_by read (refused id) = None
opened_by (malformed why id) served = None
opened_by (means (makes id lineage)) served = None
opened_by (means (samples id of threshold seed)) served = None
opened_by (means (tells id lineage)) served = None
opened_by (means (views id lineage view)) served = Some id
opened_by (means (cancels id request)) served = None
opened_by (means (ends id)) served = None

-- the id of the request whose last word a reply is where nothing is owed
abbrev pub last_word_of : Reply → Option ℕ
last_word_of (reply.Made id object seed) = None
last_word_of (reply.Info id lineage) = None
last_word_of (reply.Final id parts value) = Some id
last_word_of (reply.Cancelled id) = None
last_word_of (reply.Done id) = None
last_word_of (reply.Malformed id why) = None
last_word_of (reply.NoMem id) = id

-- the same with these answers owed: a last word among them is that a request was cancelled
abbrev pub ended_by : List Due → Reply → Option ℕ
ended_by [] r = last_word_of r
ended_by (answers other ∷ later) r = None
ended_by (making id lineage seed ∷ later) r = None
ended_by (ending id ∷ later) r = Some id

-- how often an id is this one: once or not
abbrev pub times : ℕ → Option ℕ → ℕ
times id None = 0
times id (Some other) = if other == id then 1 else 0

-- how many requests with an id a talk opens
abbrev pub openings : (m : Manner) (id : ℕ) (talk : Talk) (words : List Spoken) (last : Talk) → Talks m talk words last → ℕ
openings m id talk [] last same = 0
openings m id talk (incoming text ∷ words) last (next, heard, later) =
    times id (opened_by (reading (known m.tables talk) text) heard.how) + openings m id next words last later
openings m id talk (outgoing r ∷ words) last (next, said, later) = openings m id next words last later

-- how many last words of requests with an id it has
abbrev pub last_words : (m : Manner) (id : ℕ) (talk : Talk) (words : List Spoken) (last : Talk) → Talks m talk words last → ℕ
last_words m id talk [] last same = 0
last_words m id talk (incoming text ∷ words) last (next, heard, later) = last_words m id next words last later
last_words m id talk (outgoing r ∷ words) last (next, said, later) = times id (ended_by talk.due r) + last_words m id next words last later

-- how many requests with an id are open
abbrev pub open_with : ℕ → Talk → ℕ
open_with id talk = length (filter (λ (request : OpenRequest). request.id == id) talk.requests)

-- up to any of its words a right talk has a last word for each request that it opened, but for those that are open, of
-- which one at most has an id. So there is one last word between two openings with an id
abbrev pub HasOneLastWord : Type 0
HasOneLastWord = (m : Manner) (id : ℕ) (words : List Spoken) (last : Talk) (talks : Talks m new_talk words last)
    → (openings m id new_talk words last talks ≡ last_words m id new_talk words last talks + open_with id last) × (open_with id last ≤ 1)

-- in a whole right output each request has its last word
abbrev pub HasEachLastWord : Type 0
HasEachLastWord = (g : Setting) (script_bytes output : List ℕ) (s id : ℕ) (right : IsTrace g whole script_bytes output)
    → (words : List Spoken) (talks : Talks (g.manner s) new_talk words (talk_of right.last s))
    → openings (g.manner s) id new_talk words (talk_of right.last s) talks ≡ last_words (g.manner s) id new_talk words (talk_of right.last s) talks
