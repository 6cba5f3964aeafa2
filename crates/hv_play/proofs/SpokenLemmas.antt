-- Each session's talk is right: it follows from the steps of a run.
use Rattle.std.proofs.Common.{◌≡◌, ◌∙◌, sym, refl, ap, subst, ℕ, ◌<◌, List, [], ◌∷◌, ◌++◌, length, Bool, true, false, Option, Some, None, append-nil}
use Rattle.std.proofs.lemmas.Bool.{eqb-true, eqb-false}
use Rattle.std.proofs.lemmas.Grind.{flat_map-append}
use Rattle.std.proofs.lemmas.List.{get_or-set_same, get_or-set_other, length-set, get_or-replicate, length-replicate}
use Rattle.std.specs.Prelude.{◌==◌, ◌≢◌, if◌then◌else◌, option_to_list}
use Rattle.hv_session.specs.declared.request.OpenRequest.{OpenRequest}
use Rattle.hv_session.specs.Talk.{Talk, Manner, new_talk, Due, request_with, Spoken, incoming, outgoing, Says, Speaks, Talks}
use Rattle.hv_play.specs.Laws.{spoken_at, spoken, LeadsTalks, HasRightTalks}
use Rattle.hv_play.specs.Run.{Setting, State, Duty, script, drain, refusing, hearing, saying, ticking, treating, Event, Did, Does, SaysOwed, Treats, stays, does, start, talk_of, with_talk}

-- ---- one session among the others

-- what one session says or hears, seen from a session
abbrev seen_from : ℕ → ℕ → Spoken → List Spoken
seen_from s session word = if session == s then word ∷ [] else []

-- a step in the talk of a session is that in its own talk, and none in the others'
one_speaks : (m : ℕ → Manner) (state : State) (s session : ℕ) (word : Spoken) (next : Talk) → s < length state.talks → Speaks (m session) (talk_of state session) word next
    → Talks (m s) (talk_of state s) (seen_from s session word) (talk_of (with_talk state session next) s)
one_speaks m state s session word next within speaks = by_number (session == s) refl
  where
    by_number : (b : Bool) → (session == s) ≡ b → Talks (m s) (talk_of state s) (if b then word ∷ [] else []) (talk_of (with_talk state session next) s)
    by_number true e =
        let same : session ≡ s = eqb-true session s e in (
          next,
          subst (λ i. Speaks (m i) (talk_of state i) word next) same speaks,
          ap (λ i. talk_of (with_talk state i next) s) same ∙ get_or-set_same state.talks s next new_talk within,
        )
    by_number false e =
        let other : s ≢ session = λ same. eqb-false session s e (sym same) in
        get_or-set_other state.talks session s next new_talk other

-- ---- one step

-- what a step speaks in the talk of a session, and that no session is lost
record Led (m : ℕ → Manner) (s : ℕ) (state : State) (event : Option Event) (next : State) : Type 0 where
  talks : Talks (m s) (talk_of state s) (spoken s (option_to_list event)) (talk_of next s)
  many : length next.talks ≡ length state.talks

-- a step that shows nothing of a session and leaves the state
led_nowhere : (m : ℕ → Manner) (s : ℕ) (state next : State) (event : Option Event) → spoken s (option_to_list event) ≡ [] → next ≡ state → Led m s state event next
led_nowhere m s state next event silent same =
    record {
      talks = subst (λ words. Talks (m s) (talk_of state s) words (talk_of next s)) (sym silent) (ap (λ st. talk_of st s) same);
      many = ap (λ st. length st.talks) same;
    }

-- a step in which one session hears or says something
led_by : (m : ℕ → Manner) (s session : ℕ) (state next : State) (event : Option Event) (word : Spoken) (talk : Talk) → s < length state.talks
    → spoken s (option_to_list event) ≡ seen_from s session word → next ≡ with_talk state session talk → Speaks (m session) (talk_of state session) word talk → Led m s state event next
led_by m s session state next event word talk within seen same speaks =
    record {
      talks =
          subst (λ words. Talks (m s) (talk_of state s) words (talk_of next s)) (sym seen)
          (subst (λ st. Talks (m s) (talk_of state s) (seen_from s session word) (talk_of st s)) (sym same) (one_speaks m state s session word talk within speaks));
      many = ap (λ st. length st.talks) same ∙ length-set state.talks session talk;
    }

quiet : (m : ℕ → Manner) (s : ℕ) (state next : State) (more more' : List Duty) (event : Option Event) → Did None state more event next more' → Led m s state event next
quiet m s state next more more' event did = led_nowhere m s state next event (ap (λ o. spoken s (option_to_list o)) did.shows) did.leaves

owed_led : (m : ℕ → Manner) (state next : State) (k s session : ℕ) (dues : List Due) (event : Option Event) (more : List Duty) → s < length state.talks → (talk_of state session).due ≡ dues
    → SaysOwed (m session) state k session dues event next more → Led m s state event next
owed_led m state next k s session [] event more within e did = quiet m s state next [] more event did
owed_led m state next k s session (due ∷ later) event more within e (reply, talk, says, did) =
    led_by m s session state next event (outgoing reply) talk within
    (ap (λ o. spoken s (option_to_list o)) did.shows ∙ append-nil (seen_from s session (outgoing reply))) did.leaves
    (subst (λ ds. Says (m session) ds (talk_of state session) reply talk) (sym e) says)

treated_led : (m : ℕ → Manner) (state next : State) (k s session id : ℕ) (found : Option OpenRequest) (event : Option Event) (more : List Duty) → s < length state.talks
    → request_with id (talk_of state session) ≡ found → Treats (m session).told state k session found event next more → Led m s state event next
treated_led m state next k s session id None event more within e did = quiet m s state next [] more event did
treated_led m state next k s session id (Some request) event more within e (reply, talk, closes, did) =
    led_by m s session state next event (outgoing reply) talk within
    (ap (λ o. spoken s (option_to_list o)) did.shows ∙ append-nil (seen_from s session (outgoing reply))) did.leaves
    (subst (λ ds. Says (m session) ds (talk_of state session) reply talk) (sym closes.nothing_due) (id, request, e, closes))

step_led : (g : Setting) (state next : State) (duty : Duty) (more : List Duty) (event : Option Event) (s : ℕ) → s < length state.talks → Does g state duty event next more
    → Led g.manner s state event next
step_led g state next (script k []) more event s within did = quiet g.manner s state next (drain k ∷ []) more event did
step_led g state next (script k (line ∷ lines)) more event s within did = quiet g.manner s state next _ more event did
step_led g state next (drain k) more event s within did = quiet g.manner s state next _ more event did
step_led g state next (refusing k why) more event s within did = led_nowhere g.manner s state next event (ap (λ o. spoken s (option_to_list o)) did.shows) did.leaves
step_led g state next (hearing k session text) more event s within (talk, hears, did) =
    led_by g.manner s session state next event (incoming text) talk within (ap (λ o. spoken s (option_to_list o)) did.shows ∙ append-nil (seen_from s session (incoming text))) did.leaves hears
step_led g state next (saying k session) more event s within did = owed_led g.manner state next k s session (talk_of state session).due event more within refl did
step_led g state next (ticking k session) more event s within did = quiet g.manner s state next _ more event did
step_led g state next (treating k session id) more event s within did =
    treated_led g.manner state next k s session id (request_with id (talk_of state session)) event more within refl did

-- ---- a whole run

talks_append : (m : Manner) (a b c : Talk) (first second : List Spoken) → Talks m a first b → Talks m b second c → Talks m a (first ++ second) c
talks_append m a b c [] second same talks = subst (λ t. Talks m t second c) same talks
talks_append m a b c (word ∷ first) second (next, speaks, rest) talks = (next, speaks, talks_append m next b c first second rest talks)

pub talks_led : LeadsTalks
talks_led g state last todo left events s (stays same kept) within = refl
talks_led g state last todo left events s (does before mid end duty more rest until event later step run) within =
    let one = step_led g before mid duty more event s within step in
    subst (λ words. Talks (g.manner s) (talk_of before s) words (talk_of end s)) (sym (flat_map-append (spoken_at s) (option_to_list event) later))
    (talks_append (g.manner s) (talk_of before s) (talk_of mid s) (talk_of end s) (spoken s (option_to_list event)) (spoken s later) one.talks
    (talks_led g mid end (more ++ rest) until later s run (subst (λ n. s < n) (sym one.many) within)))

pub talks_right : HasRightTalks
talks_right g ending bytes output s right less =
    subst (λ talk. Talks (g.manner s) talk (spoken s right.events) (talk_of right.last s)) (get_or-replicate g.sessions s new_talk new_talk less)
    (talks_led g (start g) right.last _ right.left right.events s right.runs (subst (λ n. s < n) (sym (length-replicate g.sessions new_talk)) less))
