-- A run of the sessions, put together from its steps where memory suffices, each before the rest of the run.
use Rattle.std.proofs.Common.{◌≡◌, refl, sym, ap, subst, ℕ, ◌+◌, List, [], ◌∷◌, ◌++◌, map, true, false, Some, None, append-nil, inl}
use Rattle.std.specs.Prelude.{if◌then◌else◌, get_or, slice_set, replicate, flat_map}
use Rattle.hv_lineage.specs.Flat.{Told}
use Rattle.hv_lineage.specs.Lineages.{TermOver}
use Rattle.hv_message.specs.Messages.{Reading, reading}
use Rattle.hv_pick.specs.Word.{word_of}
use Rattle.hv_reply.specs.declared.reply.Reply.{Reply}
use Rattle.hv_session.specs.declared.request.OpenRequest.{OpenRequest}
use Rattle.hv_session.specs.Talk.{Talk, Due, new_talk, Manner, known, served, after_reading, due_reply, after_due, request_with, IsFinal, closed}
use Rattle.hv_play.specs.declared.entry.BadLine.{BadLine}
use Rattle.hv_play.specs.Run.{Duty, script, drain, refusing, hearing, saying, ticking, treating, Event, comes, written, Runs, stays, does, Treats, out, SaysOwed, bad_entry, entries_of, duties_of, treatings, round, is_anything_open, Setting, whole, early, IsTrace}
use Rattle.hv_play.specs.Script.{Line, line_of, script_lines}
use Rattle.hv_play.specs.Steps.{at}
use Rattle.hv_play.specs.Texts.{entries_text}

-- nothing is told of any named table
abbrev pub nothing_told : Told
nothing_told table part = None

-- there is no named table, and a session's words are those of its number
abbrev pub by_number : ℕ → Manner
by_number s = record { tables = []; told = nothing_told; words = word_of 0 s }

-- the sessions of a script
abbrev pub sixteen_sessions : Setting
sixteen_sessions = record { sessions = 16; manner = by_number }

-- the sessions go from these talks through these duties to the last talks, and nothing is left to be done
abbrev pub Goes : List Talk → List Duty → List Event → List Talk → Type 0
Goes talks todo events last = Runs sixteen_sessions (at talks) todo events (at last) []

-- a session by its parts
abbrev pub session : List TermOver → List OpenRequest → List Due → Talk
session objects requests due = record { objects = objects; requests = requests; due = due; ended = false; drawn = 0 }

-- the talk of a session
abbrev pub of : List Talk → ℕ → Talk
of talks s = get_or talks s new_talk

-- the sessions at the start
abbrev pub new_talks : List Talk
new_talks = replicate 16 new_talk

-- a line comes to the duties of what it asks for
pub a_line : {talks last : List Talk} {events : List Event} (k : ℕ) (line : List ℕ) (lines : List (List ℕ)) (asks : Line) → line_of line ≡ asks
    → Goes talks (duties_of k asks ++ script (k + 1) lines ∷ []) events last → Goes talks (script k (line ∷ lines) ∷ []) events last
a_line {talks} {last} {events} k line lines asks e run =
    let duties = duties_of k asks ++ script (k + 1) lines ∷ [] in
    does (at talks) (at talks) (at last) (script k (line ∷ lines)) duties [] [] None events
    (record { shows = refl; leaves = refl; brings = ap (λ a. duties_of k a ++ script (k + 1) lines ∷ []) (sym e) })
    (subst (λ todo. Goes talks todo events last) (sym (append-nil duties)) run)

-- after the last line the drain is due
pub no_line : {talks last : List Talk} {events : List Event} (k : ℕ) → Goes talks (drain k ∷ []) events last → Goes talks (script k [] ∷ []) events last
no_line {talks} {last} {events} k run =
    does (at talks) (at talks) (at last) (script k []) (drain k ∷ []) [] [] None events (record { shows = refl; leaves = refl; brings = refl }) run

-- a bad line is answered so
pub a_bad_line : {talks last : List Talk} {events : List Event} {todo : List Duty} (k : ℕ) (why : BadLine)
    → Goes talks todo events last → Goes talks (refusing k why ∷ todo) (written (bad_entry k why) ∷ events) last
a_bad_line {talks} {last} {events} {todo} k why run =
    does (at talks) (at talks) (at last) (refusing k why) [] todo [] (Some (written (bad_entry k why))) events (record { shows = refl; leaves = refl; brings = refl }) run

-- a text is heard, and memory suffices
pub a_text : {talks last : List Talk} {events : List Event} {todo : List Duty} (k s : ℕ) (text : List ℕ) (read : Reading)
    → (of talks s).due ≡ [] → reading (known [] (of talks s)) text ≡ read
    → Goes (slice_set talks s (after_reading (word_of 0 s) (of talks s) read)) (saying k s ∷ todo) events last
    → Goes talks (hearing k s text ∷ todo) (comes s text ∷ events) last
a_text {talks} {last} {events} {todo} k s text read owes e run =
    let next = after_reading (word_of 0 s) (of talks s) read in
    does (at talks) (at (slice_set talks s next)) (at last) (hearing k s text) (saying k s ∷ []) todo [] (Some (comes s text)) events (
      next,
      record { nothing_due = owes; how = served; is_hearing = tt; next_is = ap (after_reading (word_of 0 s) (of talks s)) (sym e) },
      record { shows = refl; leaves = refl; brings = refl },
    ) run

-- the first answer that is owed is said
pub what_is_owed : {talks last : List Talk} {events : List Event} {todo : List Duty} (k s : ℕ) (due : Due) (later : List Due) → (of talks s).due ≡ due ∷ later
    → Goes (slice_set talks s (after_due (of talks s) due)) (saying k s ∷ todo) events last
    → Goes talks (saying k s ∷ todo) (written (out k s (due_reply (of talks s) due)) ∷ events) last
what_is_owed {talks} {last} {events} {todo} k s due later owes run =
    let mid = at (slice_set talks s (after_due (of talks s) due)) in
    let event = Some (written (out k s (due_reply (of talks s) due))) in
    does (at talks) mid (at last) (saying k s) (saying k s ∷ []) todo [] event events
    (subst (λ dues. SaysOwed (by_number s) (at talks) k s dues event mid (saying k s ∷ [])) (sym owes) (
      due_reply (of talks s) due,
      after_due (of talks s) due,
      (refl, refl),
      record { shows = refl; leaves = refl; brings = refl },
    )) run

-- where nothing is owed there is nothing to say
pub nothing_owed : {talks last : List Talk} {events : List Event} {todo : List Duty} (k s : ℕ) → (of talks s).due ≡ []
    → Goes talks todo events last → Goes talks (saying k s ∷ todo) events last
nothing_owed {talks} {last} {events} {todo} k s owes run =
    does (at talks) (at talks) (at last) (saying k s) [] todo [] None events
    (subst (λ dues. SaysOwed (by_number s) (at talks) k s dues None (at talks) []) (sym owes) (record { shows = refl; leaves = refl; brings = refl })) run

-- while a request is open, each session ticks, and the drain is due again
pub a_round : {talks last : List Talk} {events : List Event} (k : ℕ) → is_anything_open (at talks) ≡ true
    → Goes talks (round sixteen_sessions k ++ drain k ∷ []) events last → Goes talks (drain k ∷ []) events last
a_round {talks} {last} {events} k e run =
    does (at talks) (at talks) (at last) (drain k) (round sixteen_sessions k ++ drain k ∷ []) [] [] None events
    (record { shows = refl; leaves = refl; brings = ap (λ b. if b then round sixteen_sessions k ++ drain k ∷ [] else []) (sym e) }) run

-- a session ticks: each of its open requests is treated
pub a_tick : {talks last : List Talk} {events : List Event} {todo : List Duty} (k s : ℕ) → Goes talks (treatings k s (of talks s).requests ++ todo) events last
    → Goes talks (ticking k s ∷ todo) events last
a_tick {talks} {last} {events} {todo} k s run =
    does (at talks) (at talks) (at last) (ticking k s) (treatings k s (of talks s).requests) todo [] None events (record { shows = refl; leaves = refl; brings = refl }) run

append-nil-both : (a b : List OpenRequest) → a ++ b ≡ [] → (a ≡ []) × (b ≡ [])
append-nil-both [] b e = (refl, e)
append-nil-both (x ∷ a) b e = cc

-- sessions without an open request tick, and show nothing
pub idle_ticks : {talks last : List Talk} {events : List Event} {todo : List Duty} (k : ℕ) (sessions : List ℕ) → flat_map (λ s. (of talks s).requests) sessions ≡ []
    → Goes talks todo events last → Goes talks (map (ticking k) sessions ++ todo) events last
idle_ticks {talks} {last} {events} {todo} k [] none run = run
idle_ticks {talks} {last} {events} {todo} k (s ∷ sessions) none run =
    let both = append-nil-both (of talks s).requests (flat_map (λ t. (of talks t).requests) sessions) none in
    a_tick k s (
    subst (λ requests. Goes talks (treatings k s requests ++ (map (ticking k) sessions ++ todo)) events last) (sym both.0)
    (idle_ticks k sessions both.1 run))

-- the drain ends where no request is open
pub no_round : {talks : List Talk} (k : ℕ) → is_anything_open (at talks) ≡ false → Goes talks (drain k ∷ []) [] talks
no_round {talks} k e =
    does (at talks) (at talks) (at talks) (drain k) [] [] [] None []
    (record { shows = refl; leaves = refl; brings = ap (λ b. if b then round sixteen_sessions k ++ drain k ∷ [] else []) (sym e) }) (stays (at talks) [])

-- a request gets its last word, and memory suffices
pub an_answer : {talks last : List Talk} {events : List Event} {todo : List Duty} (k s id : ℕ) (asked : OpenRequest) (reply : Reply) → (of talks s).due ≡ []
    → request_with id (of talks s) ≡ Some asked → IsFinal nothing_told asked reply
    → Goes (slice_set talks s (record (of talks s) { requests = closed asked.id (of talks s).requests })) todo events last
    → Goes talks (treating k s id ∷ todo) (written (out k s reply) ∷ events) last
an_answer {talks} {last} {events} {todo} k s id asked reply owes found is run =
    let next = record (of talks s) { requests = closed asked.id (of talks s).requests } in
    let event = Some (written (out k s reply)) in
    does (at talks) (at (slice_set talks s next)) (at last) (treating k s id) [] todo [] event events
    (subst (λ found. Treats nothing_told (at talks) k s found event (at (slice_set talks s next)) []) (sym found) (
      reply,
      next,
      record { nothing_due = owes; answered = inl is; next_is = refl },
      record { shows = refl; leaves = refl; brings = refl },
    ))
    run

-- a script's lines, a run through them and the text of what it shows make a right output
pub row : {events : List Event} {last : List Talk} (bytes output : List ℕ) (lines : List (List ℕ)) → script_lines bytes ≡ lines → Goes new_talks (script 1 lines ∷ []) events last
    → entries_text (entries_of events) ≡ output → IsTrace sixteen_sessions whole bytes output
row {events} {last} bytes output lines e run text =
    record {
      events = events;
      last = at last;
      left = [];
      runs = subst (λ ls. Goes new_talks (script 1 ls ∷ []) events last) (sym e) run;
      is_output = (refl, sym text);
    }

-- a front of an output that is right as a whole is right where the output ended early
pub begun : (bytes front rest : List ℕ) → IsTrace sixteen_sessions whole bytes (front ++ rest) → IsTrace sixteen_sessions early bytes front
begun bytes front rest right =
    record { events = right.events; last = right.last; left = right.left; runs = right.runs; is_output = (rest, sym right.is_output.1) }
