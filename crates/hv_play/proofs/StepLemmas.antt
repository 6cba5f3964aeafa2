-- What the calls that do a line or answer a request have shown, put together.
use Rattle.std.proofs.Common.{◌≡◌, ◌∙◌, sym, refl, ap, subst, ℕ, suc, ◌+◌, ◌<◌, List, [], ◌∷◌, ◌++◌, map, length, get_or, drop, Bool, true, false, Option, Some, None, append_assoc, append-nil, add-one, arith}
use Rattle.std.proofs.lemmas.Bool.{eqb-true, ltb-true, ltb-false}
use Rattle.std.specs.Prelude.{◌==◌, ◌||◌, ◌≢◌, nat_lt, if◌then◌else◌, replicate, Result, Ok, Err, OnOk, OnErr}
use Rattle.std.specs.List.{list_any}
use Rattle.std.proofs.Math.ListN.{get_or-map}
use Rattle.std.proofs.Math.Seq.{drop-cons, lt-length-set}
use Rattle.std.proofs.lemmas.List.{drop_all, get_or_default, length-map, get_or-set_same, get_or-set_other, set-set, set-get_or}
use Rattle.std.specs.Io.KnownBytes.{Appends}
use Rattle.std.proofs.KnownBytes.{Appends-nil, Appends-trans}
use Rattle.std.proofs.lemmas.List.FromFn.{length-range_with_len, get_or-range_with_len}
use Rattle.hv_outer.specs.Turns.{AppendsFront}
use Rattle.hv_play.specs.declared.entry.BadLine.{BadLine}
use Rattle.hv_play.specs.declared.entry.Entry.{Entry}
use Rattle.hv_reply.specs.declared.reply.Reply.{Reply}
use Rattle.hv_member.specs.Sets.{numbers}
use Rattle.hv_session.specs.Held.{AnswersFirst}
use Rattle.hv_session.specs.Talk.{Talk, new_talk, Due, Pays, Replies, after_due, due_reply, Hears, Closes, closed, Manner}
use Rattle.hv_play.specs.Texts.{entries_text}
use Rattle.hv_play.specs.Run.{State, Duty, script, drain, refusing, hearing, saying, ticking, treating, Event, comes, written, Does, SaysOwed, Treats, Runs, stays, does, entries_of, out, bad_entry, duties_of, treatings, is_waiting, is_anything_open, Setting, Suits, talk_of, with_talk, round, start, whole, early}
use Rattle.serde_json.specs.Data.{Data}
use Rattle.hv_play.specs.declared.entry.BadLine.TheVariants as bad_line
use Rattle.hv_play.specs.Script.{bad, line_of, line_of_value, session_in, text_in_line, why_bad, value_of_line, script_lines}
use Rattle.hv_play.proofs.LineLemmas.{line_of-empty, line_of-value, line_of_value-heard, script_lines-nil}
use Rattle.hv_lineage.specs.Flat.{Told}
use Rattle.hv_session.proofs.FirstLemmas.{closed-first, with-first}
use Rattle.hv_play.specs.Steps.{at, Shows, OneCloses, DoneSoFar, CutShort, Wrote}
use Rattle.hv_play.proofs.RunLemmas.{runs_on, before, one, entries_of-append, entries_text-append}

-- ---- a line

pub shows_nothing : (g : Setting) (state : State) → Shows g [] state [] state
shows_nothing g state = record { events = []; runs = stays state []; shown = refl }

-- a bad line is answered so
pub shows_bad : (g : Setting) (k : ℕ) (why : BadLine) (state : State) → Shows g (refusing k why ∷ []) state (bad_entry k why ∷ []) state
shows_bad g k why state =
    record {
      events = written (bad_entry k why) ∷ [];
      runs = one g state state (refusing k why) [] (Some (written (bad_entry k why))) (record { shows = refl; leaves = refl; brings = refl });
      shown = refl;
    }

says_nothing : (m : Manner) (state : State) (k s : ℕ) (dues : List Due) → dues ≡ [] → SaysOwed m state k s dues None state []
says_nothing m state k s dues e = subst (λ ds. SaysOwed m state k s ds None state []) (sym e) (record { shows = refl; leaves = refl; brings = refl })

says_first : (m : Manner) (state : State) (k s : ℕ) (dues later : List Due) (due : Due) → dues ≡ due ∷ later
    → SaysOwed m state k s dues (Some (written (out k s (due_reply (talk_of state s) due)))) (with_talk state s (after_due (talk_of state s) due)) (saying k s ∷ [])
says_first m state k s dues later due e =
    let talk = talk_of state s in
    subst (λ ds. SaysOwed m state k s ds (Some (written (out k s (due_reply talk due)))) (with_talk state s (after_due talk due)) (saying k s ∷ [])) (sym e) (
      due_reply talk due,
      after_due talk due,
      (refl, refl),
      record { shows = refl; leaves = refl; brings = refl },
    )

-- a talk that goes on twice has gone on to the last
twice : (state : State) (s : ℕ) (mid next : Talk) → with_talk (with_talk state s mid) s next ≡ with_talk state s next
twice state s mid next = ap at (set-set state.talks s mid next)

there : (state : State) (s : ℕ) (talk : Talk) → s < length state.talks → talk_of (with_talk state s talk) s ≡ talk
there state s talk within = get_or-set_same state.talks s talk new_talk within

still : (state : State) (s : ℕ) (talk : Talk) → s < length state.talks → s < length (with_talk state s talk).talks
still state s talk within = lt-length-set state.talks s talk within

-- a session says what it owes
pub pays_shows : (g : Setting) (k s : ℕ) (state : State) (next : Talk) (replies : List Reply) → s < length state.talks → Pays (talk_of state s) replies next
    → Shows g (saying k s ∷ []) state (map (out k s) replies) (with_talk state s next)
pays_shows g k s state next [] within (none, is) =
    let same : state ≡ with_talk state s next = ap at (sym (set-get_or state.talks s new_talk)) ∙ ap (with_talk state s) (sym is) in
    record {
      events = [];
      runs = subst (λ end. Runs g state (saying k s ∷ []) [] end []) same
          (one g state state (saying k s) [] None (says_nothing (g.manner s) state k s (talk_of state s).due none));
      shown = refl;
    }
pays_shows g k s state next (reply ∷ replies) within (due, later, first, is, rest) =
    let talk = talk_of state s in
    let mid = with_talk state s (after_due talk due) in
    let more = pays_shows g k s mid next replies (still state s (after_due talk due) within)
    (subst (λ t. Pays t replies next) (sym (there state s (after_due talk due) within)) rest) in
    record {
      events = written (out k s (due_reply talk due)) ∷ more.events;
      runs = does state mid (with_talk state s next) (saying k s) (saying k s ∷ []) [] [] (Some (written (out k s (due_reply talk due)))) more.events
          (says_first (g.manner s) state k s talk.due later due first)
          (subst (λ end. Runs g mid (saying k s ∷ []) more.events end []) (twice state s (after_due talk due) next) more.runs);
      shown = ap (λ r. out k s r ∷ entries_of more.events) (sym is) ∙ ap (λ entries. out k s reply ∷ entries) more.shown;
    }

-- a session hears a text and says what that makes due
pub shows_replies : (g : Setting) (k s : ℕ) (state : State) (next : Talk) (text : List ℕ) (replies : List Reply) → (g.manner s).tables ≡ [] → (words : ℕ → ℕ) → (g.manner s).words ≡ words
    → s < length state.talks → Replies [] words (talk_of state s) text replies next → Shows g (hearing k s text ∷ []) state (map (out k s) replies) (with_talk state s next)
shows_replies g k s state next text replies none words drawn within r =
    let mid = with_talk state s r.owing in
    let more = pays_shows g k s mid next replies (still state s r.owing within) (subst (λ t. Pays t replies next) (sym (there state s r.owing within)) r.pays) in
    record {
      events = comes s text ∷ more.events;
      runs = does state mid (with_talk state s next) (hearing k s text) (saying k s ∷ []) [] [] (Some (comes s text)) more.events (
        r.owing,
        subst (λ tables. Hears tables (g.manner s).words (talk_of state s) text r.owing) (sym none)
            (subst (λ from. Hears [] from (talk_of state s) text r.owing) (sym drawn) r.hears),
        record { shows = refl; leaves = refl; brings = refl },
      )
          (subst (λ end. Runs g mid (saying k s ∷ []) more.events end []) (twice state s r.owing next) more.runs);
      shown = more.shown;
    }

-- what a line's value asks for is shown
pub value_bad : (g : Setting) (k : ℕ) (value : Data) (state : State) → line_of_value (Some value) ≡ bad (why_bad value)
    → Shows g (duties_of k (line_of_value (Some value))) state (bad_entry k (why_bad value) ∷ []) state
value_bad g k value state e =
    subst (λ l. Shows g (duties_of k l) state (bad_entry k (why_bad value) ∷ []) state) (sym e) (shows_bad g k (why_bad value) state)

pub value_heard : (g : Setting) (k s : ℕ) (value : Data) (text : List ℕ) (state : State) (d next : Talk) (replies : List Reply) → (g.manner s).tables ≡ [] → (words : ℕ → ℕ) → (g.manner s).words ≡ words
    → s < length state.talks → session_in value ≡ Some s → text_in_line value ≡ Some text → Replies [] words (get_or state.talks s d) text replies next
    → Shows g (duties_of k (line_of_value (Some value))) state (map (out k s) replies) (with_talk state s next)
value_heard g k s value text state d next replies none words drawn within is says said =
    subst (λ l. Shows g (duties_of k l) state (map (out k s) replies) (with_talk state s next)) (sym (line_of_value-heard value s text is says))
    (shows_replies g k s state next text replies none words drawn within (subst (λ talk. Replies [] words talk text replies next) (get_or_default state.talks s d new_talk within) said))

pub line_empty : (g : Setting) (k : ℕ) (line : List ℕ) (state : State) → (length line == 0) ≡ true → Shows g (duties_of k (line_of line)) state [] state
line_empty g k line state e = subst (λ l. Shows g (duties_of k l) state [] state) (sym (line_of-empty line e)) (shows_nothing g state)

pub line_no_json : (g : Setting) (k : ℕ) (line : List ℕ) (state : State) → (length line == 0) ≡ false → value_of_line line ≡ None
    → Shows g (duties_of k (line_of line)) state (bad_entry k bad_line.Json ∷ []) state
line_no_json g k line state e none =
    subst (λ l. Shows g (duties_of k l) state (bad_entry k bad_line.Json ∷ []) state) (sym (line_of-value line e ∙ ap line_of_value none)) (shows_bad g k bad_line.Json state)

pub line_json : (g : Setting) (k : ℕ) (line : List ℕ) (value : Data) (state next : State) (entries : List Entry) → (length line == 0) ≡ false → value_of_line line ≡ Some value
    → Shows g (duties_of k (line_of_value (Some value))) state entries next → Shows g (duties_of k (line_of line)) state entries next
line_json g k line value state next entries e is shows =
    subst (λ l. Shows g (duties_of k l) state entries next) (sym (line_of-value line e ∙ ap line_of_value is)) shows

-- ---- one thing after another

pub done_nothing : (g : Setting) (todo : List Duty) (state : State) (taken : Option (List ℕ)) → DoneSoFar g todo state todo state taken taken
done_nothing g todo state taken = record { events = []; runs = stays state todo; written = Appends-nil taken }

-- what was written, and then more
written_more : (first second : List Event) (a b c : Option (List ℕ)) → Appends a b (entries_text (entries_of first)) → Appends b c (entries_text (entries_of second))
    → Appends a c (entries_text (entries_of (first ++ second)))
written_more first second a b c p q =
    subst (Appends a c) (sym (ap entries_text (entries_of-append first second) ∙ entries_text-append (entries_of first) (entries_of second)))
    (Appends-trans a b c (entries_text (entries_of first)) (entries_text (entries_of second)) p q)

pub done_more : (g : Setting) (todo mid left : List Duty) (state between next : State) (a b c : Option (List ℕ))
    → DoneSoFar g todo state mid between a b → DoneSoFar g mid between left next b c → DoneSoFar g todo state left next a c
done_more g todo mid left state between next a b c first second =
    record {
      events = first.events ++ second.events;
      runs = runs_on g state between next todo mid left first.events second.events first.runs second.runs;
      written = written_more first.events second.events a b c first.written second.written;
    }

pub cut_more : (g : Setting) (todo mid : List Duty) (state between : State) (a b c : Option (List ℕ))
    → DoneSoFar g todo state mid between a b → CutShort g mid between b c → CutShort g todo state a c
cut_more g todo mid state between a b c first second =
    record {
      events = first.events ++ second.events;
      left = second.left;
      last = second.last;
      runs = runs_on g state between second.last todo mid second.left first.events second.events first.runs second.runs;
      front = entries_text (entries_of first.events) ++ second.front;
      rest = second.rest;
      split = ap entries_text (entries_of-append first.events second.events) ∙ entries_text-append (entries_of first.events) (entries_of second.events)
          ∙ ap (λ bytes. entries_text (entries_of first.events) ++ bytes) second.split
          ∙ sym (append_assoc (entries_text (entries_of first.events)) second.front second.rest);
      written = Appends-trans a b c (entries_text (entries_of first.events)) second.front first.written second.written;
    }

pub cut_here : (g : Setting) (todo left : List Duty) (state next : State) (a b : Option (List ℕ)) → DoneSoFar g todo state left next a b → CutShort g todo state a b
cut_here g todo left state next a b done =
    record {
      events = done.events;
      left = left;
      last = next;
      runs = done.runs;
      front = entries_text (entries_of done.events);
      rest = [];
      split = sym (append-nil (entries_text (entries_of done.events)));
      written = done.written;
    }

-- the first of the lines, which shows what its duties show
line_runs : (g : Setting) (k : ℕ) (line : List ℕ) (lines : List (List ℕ)) (state next : State) (entries : List Entry)
    (shows : Shows g (duties_of k (line_of line)) state entries next)
    → Runs g state (script k (line ∷ lines) ∷ []) shows.events next (script (k + 1) lines ∷ [])
line_runs g k line lines state next entries shows =
    let duties = duties_of k (line_of line) in
    let rest = script (k + 1) lines ∷ [] in
    does state state next (script k (line ∷ lines)) (duties ++ rest) [] rest None shows.events (record { shows = refl; leaves = refl; brings = refl })
    (subst (λ todo. Runs g state todo shows.events next rest) (sym (append-nil (duties ++ rest)))
    (before g state next duties [] rest shows.events shows.runs))

pub line_done : (g : Setting) (k : ℕ) (line : List ℕ) (lines : List (List ℕ)) (state next : State) (entries : List Entry) (a b : Option (List ℕ))
    → Shows g (duties_of k (line_of line)) state entries next → Appends a b (entries_text entries)
    → DoneSoFar g (script k (line ∷ lines) ∷ []) state (script (k + 1) lines ∷ []) next a b
line_done g k line lines state next entries a b shows wrote =
    record {
      events = shows.events;
      runs = line_runs g k line lines state next entries shows;
      written = subst (λ es. Appends a b (entries_text es)) (sym shows.shown) wrote;
    }

pub line_cut : (g : Setting) (k : ℕ) (line : List ℕ) (lines : List (List ℕ)) (state next : State) (entries : List Entry) (a b : Option (List ℕ))
    → Shows g (duties_of k (line_of line)) state entries next → AppendsFront a b (entries_text entries) → CutShort g (script k (line ∷ lines) ∷ []) state a b
line_cut g k line lines state next entries a b shows wrote =
    record {
      events = shows.events;
      left = script (k + 1) lines ∷ [];
      last = next;
      runs = line_runs g k line lines state next entries shows;
      front = wrote.front;
      rest = wrote.rest;
      split = ap entries_text shows.shown ∙ sym wrote.split;
      written = wrote.appended;
    }

-- lines that begin with a line
pub rest_lines : (g : Setting) (k : ℕ) (lines : List (List ℕ)) (line : List ℕ) (later : List (List ℕ)) (state next : State) (a b : Option (List ℕ)) → lines ≡ line ∷ later
    → DoneSoFar g (script k (line ∷ later) ∷ []) state (script (k + 1) later ∷ []) next a b → DoneSoFar g (script k lines ∷ []) state (script (k + 1) later ∷ []) next a b
rest_lines g k lines line later state next a b e done =
    subst (λ ls. DoneSoFar g (script k ls ∷ []) state (script (k + 1) later ∷ []) next a b) (sym e) done

-- an empty line shows nothing
pub empty_line_done : (g : Setting) (k : ℕ) (lines later : List (List ℕ)) (state : State) (taken : Option (List ℕ)) → lines ≡ [] ∷ later
    → DoneSoFar g (script k lines ∷ []) state (script (k + 1) later ∷ []) state taken taken
empty_line_done g k lines later state taken e =
    rest_lines g k lines [] later state state taken taken e
    (line_done g k [] later state state [] taken taken (shows_nothing g state) (Appends-nil taken))

-- bytes of which none is left have no line
pub no_lines : (rest : List ℕ) → (length rest == 0) ≡ true → script_lines rest ≡ []
no_lines [] e = script_lines-nil
no_lines (b ∷ rest) e = absurd (omega (arith, eqb-true (length (b ∷ rest)) 0 e))

-- after the last line the drain is due
pub lines_done : (g : Setting) (k : ℕ) (state : State) (taken : Option (List ℕ)) → DoneSoFar g (script k [] ∷ []) state (drain k ∷ []) state taken taken
lines_done g k state taken =
    record {
      events = [];
      runs = one g state state (script k []) (drain k ∷ []) None (record { shows = refl; leaves = refl; brings = refl });
      written = Appends-nil taken;
    }

-- ---- the drain

-- a session's tick begins: each of its open requests is to be answered
pub tick_begins : (g : Setting) (k s : ℕ) (state : State) (taken : Option (List ℕ))
    → DoneSoFar g (ticking k s ∷ []) state (treatings k s (talk_of state s).requests) state taken taken
tick_begins g k s state taken =
    record {
      events = [];
      runs = one g state state (ticking k s) (treatings k s (talk_of state s).requests) None (record { shows = refl; leaves = refl; brings = refl });
      written = Appends-nil taken;
    }

-- where no request of a session is open its tick is done
pub tick_ends : (g : Setting) (k s : ℕ) (first state : State) (d now : Talk) (a b : Option (List ℕ)) → s < length state.talks
    → (get_or state.talks s d).requests ≡ [] → now ≡ get_or state.talks s d
    → DoneSoFar g (ticking k s ∷ []) first (treatings k s (talk_of state s).requests) state a b → DoneSoFar g (ticking k s ∷ []) first [] (with_talk state s now) a b
tick_ends g k s first state d now a b within none same done =
    let is : get_or state.talks s d ≡ talk_of state s = get_or_default state.talks s d new_talk within in
    let kept : state ≡ with_talk state s now = ap at (sym (set-get_or state.talks s d)) ∙ ap (with_talk state s) (sym same) in
    let over : treatings k s (talk_of state s).requests ≡ [] = ap (treatings k s) (ap (λ (t : Talk). t.requests) (sym is) ∙ none) in
    subst (λ st. DoneSoFar g (ticking k s ∷ []) first [] st a b) kept (subst (λ left. DoneSoFar g (ticking k s ∷ []) first left state a b) over done)

closes_first : (told : Told) (talk next : Talk) (reply : Reply) (a : AnswersFirst talk reply next) → Closes told talk a.request reply next
closes_first told talk next reply a =
    record {
      nothing_due = a.nothing_due;
      answered = a.answers told;
      next_is = a.next_is ∙ ap (λ rs. record talk { requests = rs }) (sym (ap (closed a.request.id) a.first ∙ closed-first a.request a.later));
    }

-- the request that was opened first is treated
answer_step : (g : Setting) (k s : ℕ) (state : State) (next : Talk) (reply : Reply) (a : AnswersFirst (talk_of state s) reply next)
    → Does g state (treating k s a.request.id) (Some (written (out k s reply))) (with_talk state s next) []
answer_step g k s state next reply a =
    let talk = talk_of state s in
    subst (λ found. Treats (g.manner s).told state k s found (Some (written (out k s reply))) (with_talk state s next) [])
    (sym (with-first talk a.request a.later a.first)) (
      reply,
      next,
      closes_first (g.manner s).told talk next reply a,
      record { shows = refl; leaves = refl; brings = refl },
    )

answer_runs : (g : Setting) (k s : ℕ) (state : State) (next : Talk) (reply : Reply) (a : AnswersFirst (talk_of state s) reply next)
    → Runs g state (treatings k s (talk_of state s).requests) (written (out k s reply) ∷ []) (with_talk state s next) (treatings k s next.requests)
answer_runs g k s state next reply a =
    let mid = with_talk state s next in
    let event = written (out k s reply) in
    subst (λ rs. Runs g state (treatings k s rs) (event ∷ []) mid (treatings k s next.requests)) (sym a.first)
    (does state mid mid (treating k s a.request.id) [] (treatings k s a.later) (treatings k s next.requests) (Some event) []
    (answer_step g k s state next reply a)
    (subst (λ rs. Runs g mid (treatings k s a.later) [] mid (treatings k s rs)) (sym (ap (λ t. t.requests) a.next_is)) (stays mid (treatings k s a.later))))

-- the other sessions are as they were
pub others_stay : (s : ℕ) (first state : State) (next : Talk) → s < length state.talks → state ≡ with_talk first s (talk_of state s)
    → with_talk state s next ≡ with_talk first s (talk_of (with_talk state s next) s)
others_stay s first state next within e =
    ap (λ st. with_talk st s next) e ∙ twice first s (talk_of state s) next ∙ ap (with_talk first s) (sym (there state s next within))

pub answer_done : (g : Setting) (k s : ℕ) (state : State) (next : Talk) (reply : Reply) (a b : Option (List ℕ)) → s < length state.talks
    → AnswersFirst (talk_of state s) reply next → Appends a b (entries_text (out k s reply ∷ []))
    → DoneSoFar g (treatings k s (talk_of state s).requests) state (treatings k s (talk_of (with_talk state s next) s).requests) (with_talk state s next) a b
answer_done g k s state next reply a b within answered wrote =
    subst (λ (talk : Talk). DoneSoFar g (treatings k s (talk_of state s).requests) state (treatings k s talk.requests) (with_talk state s next) a b)
    (sym (there state s next within))
    (record { events = written (out k s reply) ∷ []; runs = answer_runs g k s state next reply answered; written = wrote })

pub answer_cut : (g : Setting) (k s : ℕ) (state : State) (next : Talk) (reply : Reply) (a b : Option (List ℕ)) → AnswersFirst (talk_of state s) reply next
    → AppendsFront a b (entries_text (out k s reply ∷ [])) → CutShort g (treatings k s (talk_of state s).requests) state a b
answer_cut g k s state next reply a b answered wrote =
    record {
      events = written (out k s reply) ∷ [];
      left = treatings k s next.requests;
      last = with_talk state s next;
      runs = answer_runs g k s state next reply answered;
      front = wrote.front;
      rest = wrote.rest;
      split = sym wrote.split;
      written = wrote.appended;
    }

-- a round has a tick for each session, in order
pub round_from : (g : Setting) (k s : ℕ) → s < g.sessions → drop s (round g k) ≡ ticking k s ∷ drop (s + 1) (round g k)
round_from g k s less =
    let place : 0 + s ≡ s = omega arith in
    drop-cons (round g k) s (ticking k 0) (omega (arith, length-map (numbers g.sessions) (ticking k), length-range_with_len 0 g.sessions))
    ∙ ap (λ d. d ∷ drop (suc s) (round g k)) (get_or-map (ticking k) (numbers g.sessions) s 0 ∙ ap (ticking k) (get_or-range_with_len 0 g.sessions s 0 less ∙ place))
    ∙ ap (λ n. ticking k s ∷ drop n (round g k)) (sym (add-one s))

-- after the last there is no more
pub round_end : (g : Setting) (k : ℕ) → drop g.sessions (round g k) ≡ []
round_end g k = drop_all g.sessions (round g k) (omega (arith, length-map (numbers g.sessions) (ticking k), length-range_with_len 0 g.sessions))

-- more is to be done afterwards
pub done_before : (g : Setting) (todo mid more : List Duty) (state next : State) (a b : Option (List ℕ))
    → DoneSoFar g todo state mid next a b → DoneSoFar g (todo ++ more) state (mid ++ more) next a b
done_before g todo mid more state next a b done =
    record { events = done.events; runs = before g state next todo mid more done.events done.runs; written = done.written }

pub cut_before : (g : Setting) (todo more : List Duty) (state : State) (a b : Option (List ℕ)) → CutShort g todo state a b → CutShort g (todo ++ more) state a b
cut_before g todo more state a b cut =
    record {
      events = cut.events;
      left = cut.left ++ more;
      last = cut.last;
      runs = before g state cut.last todo cut.left more cut.events cut.runs;
      front = cut.front;
      rest = cut.rest;
      split = cut.split;
      written = cut.written;
    }

-- one session more of a round has ticked
pub round_more : (g : Setting) (k s : ℕ) (state next : State) (a b : Option (List ℕ)) → s < g.sessions → DoneSoFar g (ticking k s ∷ []) state [] next a b
    → DoneSoFar g (drop s (round g k)) state (drop (s + 1) (round g k)) next a b
round_more g k s state next a b less done =
    subst (λ todo. DoneSoFar g todo state (drop (s + 1) (round g k)) next a b) (sym (round_from g k s less))
    (done_before g (ticking k s ∷ []) [] (drop (s + 1) (round g k)) state next a b done)

pub round_cut : (g : Setting) (k s : ℕ) (state : State) (a b : Option (List ℕ)) → s < g.sessions → CutShort g (ticking k s ∷ []) state a b
    → CutShort g (drop s (round g k)) state a b
round_cut g k s state a b less cut =
    subst (λ todo. CutShort g todo state a b) (sym (round_from g k s less)) (cut_before g (ticking k s ∷ []) (drop (s + 1) (round g k)) state a b cut)

drain_step : (g : Setting) (k : ℕ) (state : State) (b : Bool) → is_anything_open state ≡ b
    → Does g state (drain k) None state (if b then round g k ++ drain k ∷ [] else [])
drain_step g k state b e = record { shows = refl; leaves = refl; brings = ap (λ test. if test then round g k ++ drain k ∷ [] else []) (sym e) }

-- with a request open the drain is a round and the drain again
pub drain_begins : (g : Setting) (k : ℕ) (state : State) (taken : Option (List ℕ)) → is_anything_open state ≡ true
    → DoneSoFar g (drain k ∷ []) state (round g k ++ drain k ∷ []) state taken taken
drain_begins g k state taken e =
    record {
      events = [];
      runs = one g state state (drain k) (round g k ++ drain k ∷ []) None (drain_step g k state true e);
      written = Appends-nil taken;
    }

-- the drain ends where no request is open
pub drain_ends : (g : Setting) (k : ℕ) (state : State) (taken : Option (List ℕ)) → is_anything_open state ≡ false
    → DoneSoFar g (drain k ∷ []) state [] state taken taken
drain_ends g k state taken e =
    record { events = []; runs = one g state state (drain k) [] None (drain_step g k state false e); written = Appends-nil taken }

-- where each session has no open request nothing is open
pub none_waits : (talks : List Talk) → ((t : ℕ) → t < length talks → (get_or talks t new_talk).requests ≡ []) → list_any is_waiting talks ≡ false
none_waits [] none = refl
none_waits (talk ∷ talks) none =
    ap (λ rs. nat_lt 0 (length rs) || list_any is_waiting talks) (none 0 (omega arith)) ∙ none_waits talks (λ t less. none (suc t) (omega arith))

-- one session more has no open request
pub closed_more : (s : ℕ) (state next : State) → s < length state.talks → OneCloses s state next → ((t : ℕ) → t < s → (talk_of state t).requests ≡ [])
    → (t : ℕ) → t < s + 1 → (talk_of next t).requests ≡ []
closed_more s state next within closes none t less = by_number (nat_lt t s) refl
  where
    by_number : (b : Bool) → nat_lt t s ≡ b → (talk_of next t).requests ≡ []
    by_number true lower =
        let other : t ≢ s = omega (arith, ltb-true t s lower) in
        ap (λ st. (talk_of st t).requests) closes.next_is ∙ ap (λ talk. talk.requests) (get_or-set_other state.talks s t closes.talk new_talk other) ∙ none t (ltb-true t s lower)
    by_number false last =
        let same : t ≡ s = omega (arith, ltb-false t s last, less) in
        ap (λ i. (talk_of next i).requests) same ∙ ap (λ st. (talk_of st s).requests) closes.next_is
        ∙ ap (λ talk. talk.requests) (there state s closes.talk within) ∙ closes.none_open

-- ---- a whole script

-- sessions that are all new are where a setting of as many starts
begins : (g : Setting) (first : State) (n : ℕ) → Suits g n → first ≡ at (replicate n new_talk) → first ≡ start g
begins g first n suits new = new ∙ ap (λ count. at (replicate count new_talk)) (sym suits.many)

-- a setting suits as many sessions
pub suits_on : (g : Setting) (m n : ℕ) → n ≡ m → Suits g m → Suits g n
suits_on g m n same suits = subst (Suits g) (sym same) suits

-- the lines were done and then the drain
pub wrote_whole : (g : Setting) (bytes : List ℕ) (first mid next : State) (n k : ℕ) (a b c : Option (List ℕ)) → Suits g n → first ≡ at (replicate n new_talk)
    → DoneSoFar g (script 1 (script_lines bytes) ∷ []) first (drain k ∷ []) mid a b → DoneSoFar g (drain k ∷ []) mid [] next b c → Wrote g whole bytes a c
wrote_whole g bytes first mid next n k a b c suits new lines drained =
    let from_start = subst (λ state. DoneSoFar g (script 1 (script_lines bytes) ∷ []) state (drain k ∷ []) mid a b) (begins g first n suits new) lines in
    let done = done_more g _ _ _ (start g) mid next a b c from_start drained in
    record {
      output = entries_text (entries_of done.events);
      written = done.written;
      right = record { events = done.events; last = next; left = []; runs = done.runs; is_output = (refl, refl) };
    }

-- the lines were cut short
pub wrote_early : (g : Setting) (bytes : List ℕ) (first : State) (a b : Option (List ℕ)) → first ≡ start g
    → CutShort g (script 1 (script_lines bytes) ∷ []) first a b → Wrote g early bytes a b
wrote_early g bytes first a b new lines =
    let cut = subst (λ state. CutShort g (script 1 (script_lines bytes) ∷ []) state a b) new lines in
    record {
      output = cut.front;
      written = cut.written;
      right = record { events = cut.events; last = cut.last; left = cut.left; runs = cut.runs; is_output = (cut.rest, cut.split) };
    }

pub wrote_lines : (g : Setting) (bytes : List ℕ) (first : State) (n : ℕ) (a b : Option (List ℕ)) → Suits g n → first ≡ at (replicate n new_talk)
    → CutShort g (script 1 (script_lines bytes) ∷ []) first a b → Wrote g early bytes a b
wrote_lines g bytes first n a b suits new lines = wrote_early g bytes first a b (begins g first n suits new) lines

-- nothing was done yet
pub wrote_nothing : (g : Setting) (bytes : List ℕ) (taken : Option (List ℕ)) → Wrote g early bytes taken taken
wrote_nothing g bytes taken =
    let todo = script 1 (script_lines bytes) ∷ [] in
    wrote_early g bytes (start g) taken taken refl (cut_here g todo todo (start g) (start g) taken taken (done_nothing g todo (start g) taken))

-- the lines were done and the drain was cut short
pub wrote_cut : (g : Setting) (bytes : List ℕ) (first mid : State) (n k : ℕ) (a b c : Option (List ℕ)) → Suits g n → first ≡ at (replicate n new_talk)
    → DoneSoFar g (script 1 (script_lines bytes) ∷ []) first (drain k ∷ []) mid a b → CutShort g (drain k ∷ []) mid b c → Wrote g early bytes a c
wrote_cut g bytes first mid n k a b c suits new lines drained =
    wrote_lines g bytes first n a c suits new (cut_more g _ _ first mid a b c lines drained)

-- ---- results

pub on_ok_then : {A E P Q : Type 0} (r : Result A E) → (P → Q) → OnOk r P → OnOk r Q
on_ok_then (Ok a) f p = f p
on_ok_then (Err e) f p = p

pub on_err_then : {A E P Q : Type 0} (r : Result A E) → (P → Q) → OnErr r P → OnErr r Q
on_err_then (Ok a) f p = p
on_err_then (Err e) f p = f p

pub on_err_any : {A E P : Type 0} (r : Result A E) → P → OnErr r P
on_err_any (Ok a) p = tt
on_err_any (Err e) p = p
