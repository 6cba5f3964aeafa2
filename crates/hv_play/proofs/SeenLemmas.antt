-- The talk of each session is the one that script and output lines show.
use Rattle.std.proofs.Common.{◌≡◌, ◌∙◌, sym, refl, ap, subst, ℕ, ◌+◌, ◌<◌, List, [], ◌∷◌, ◌++◌, Bool, true, false, Option, Some, None, append_assoc, append-nil, arith}
use Rattle.std.proofs.lemmas.Bool.{eq-eqb, ne_eqb}
use Rattle.std.proofs.lemmas.Grind.{flat_map-append}
use Rattle.std.specs.List.{AllByRecursion}
use Rattle.std.specs.Prelude.{◌==◌, ◌≤◌, if◌then◌else◌, flat_map, map, option_to_list}
use Rattle.hv_lineage.specs.Flat.{Told}
use Rattle.hv_member.specs.Sets.{numbers}
use Rattle.hv_play.specs.declared.entry.Entry.{Entry}
use Rattle.hv_play.specs.Laws.{AreTalksSeen, AreSeenTalksRight, brought_by, said_at, seen_talk, spoken, spoken_at, spoken_by}
use Rattle.hv_play.specs.Run.{Setting, State, Duty, script, drain, refusing, hearing, saying, ticking, treating, Event, comes, written, Did, Does, SaysOwed, Treats, Runs, stays, does, whole, entries_of, duties_of, treatings, round, drain_duties, is_anything_open, talk_of}
use Rattle.hv_play.specs.Script.{Line, empty, bad, hears, line_of, script_lines}
use Rattle.hv_play.proofs.RunLemmas.{entries_of-append}
use Rattle.hv_play.proofs.SpokenLemmas.{talks_right}
use Rattle.hv_session.specs.declared.request.OpenRequest.{OpenRequest}
use Rattle.hv_session.specs.Talk.{Due, Manner, Spoken, Talks, new_talk, request_with}

-- ---- lists

all_append : {A : Type 0} (P : A → Type 0) (xs ys : List A) → AllByRecursion P xs → AllByRecursion P ys → AllByRecursion P (xs ++ ys)
all_append P [] ys here more = more
all_append P (x ∷ xs) ys here more = (here.0, all_append P xs ys here.1 more)

all_weaker : {A : Type 0} (P Q : A → Type 0) (xs : List A) → ((x : A) → P x → Q x) → AllByRecursion P xs → AllByRecursion Q xs
all_weaker P Q [] f all = tt
all_weaker P Q (x ∷ xs) f all = (f x all.0, all_weaker P Q xs f all.1)

-- ---- lines with a number

-- what output lines say in the talk of a session
abbrev said_by : ℕ → List Entry → List Spoken
said_by s entries = flat_map (λ entry. spoken_by s entry.what) entries

abbrev HasNumber : ℕ → Entry → Type 0
HasNumber k entry = entry.line ≡ k

-- of lines with this number all is said
said_here : (s k : ℕ) (entries : List Entry) → AllByRecursion (HasNumber k) entries → said_at s k entries ≡ said_by s entries
said_here s k [] all = refl
said_here s k (entry ∷ entries) all =
    ap (λ b. (if b then spoken_by s entry.what else []) ++ said_at s k entries) (eq-eqb entry.line k all.0)
    ∙ ap (λ words. spoken_by s entry.what ++ words) (said_here s k entries all.1)

abbrev HasOther : ℕ → Entry → Type 0
HasOther k entry = (entry.line == k) ≡ false

-- and of others nothing
said_not : (s k : ℕ) (entries : List Entry) → AllByRecursion (HasOther k) entries → said_at s k entries ≡ []
said_not s k [] all = refl
said_not s k (entry ∷ entries) all =
    ap (λ b. (if b then spoken_by s entry.what else []) ++ said_at s k entries) all.0 ∙ said_not s k entries all.1

before_number : (n k : ℕ) → n < k → (n == k) ≡ false
before_number n k less = ne_eqb n k (λ same. omega (arith, less, same))

after_number : (n k : ℕ) → k < n → (n == k) ≡ false
after_number n k less = ne_eqb n k (λ same. omega (arith, less, same))

abbrev IsBefore : ℕ → Entry → Type 0
IsBefore k entry = entry.line < k

abbrev IsFrom : ℕ → Entry → Type 0
IsFrom k entry = k ≤ entry.line

-- lines before a number are not looked at from there on
seen_later : (s k : ℕ) (lines : List (List ℕ)) (front rest : List Entry) → AllByRecursion (IsBefore k) front
    → seen_talk s k lines (front ++ rest) ≡ seen_talk s k lines rest
seen_later s k [] front rest all = said_later s k front rest all
  where
    said_later : (s k : ℕ) (front rest : List Entry) → AllByRecursion (IsBefore k) front → said_at s k (front ++ rest) ≡ said_at s k rest
    said_later s k front rest all =
        flat_map-append (λ (entry : Entry). if entry.line == k then spoken_by s entry.what else []) front rest
        ∙ ap (λ words. words ++ said_at s k rest) (said_not s k front (all_weaker (IsBefore k) (HasOther k) front (λ entry less. before_number entry.line k less) all))
seen_later s k (line ∷ lines) front rest all =
    ap (λ words. brought_by s (line_of line) ++ (words ++ seen_talk s (k + 1) lines (front ++ rest)))
    (flat_map-append (λ (entry : Entry). if entry.line == k then spoken_by s entry.what else []) front rest
    ∙ ap (λ words. words ++ said_at s k rest) (said_not s k front (all_weaker (IsBefore k) (HasOther k) front (λ entry less. before_number entry.line k less) all)))
    ∙ ap (λ words. brought_by s (line_of line) ++ (said_at s k rest ++ words))
    (seen_later s (k + 1) lines front rest (all_weaker (IsBefore k) (IsBefore (k + 1)) front (λ entry less. omega (arith, less)) all))

-- ---- duties that say something, in lines with a number

abbrev IsSayingAt : ℕ → Duty → Type 0
IsSayingAt k (script j lines) = ⊥
IsSayingAt k (drain j) = j ≡ k
IsSayingAt k (refusing j why) = j ≡ k
IsSayingAt k (hearing j s text) = ⊥
IsSayingAt k (saying j s) = j ≡ k
IsSayingAt k (ticking j s) = j ≡ k
IsSayingAt k (treating j s id) = j ≡ k

abbrev IsShownAt : ℕ → Option Event → Type 0
IsShownAt k None = Unit {0}
IsShownAt k (Some (comes s text)) = ⊥
IsShownAt k (Some (written entry)) = entry.line ≡ k

-- a step shows a line with this number at most, and brings duties that say something in such lines
record SaysAt (k : ℕ) (event : Option Event) (more : List Duty) : Type 0 where
  shows_so : IsShownAt k event
  brings_so : AllByRecursion (IsSayingAt k) more

says_did : (k : ℕ) (event event' : Option Event) (state next : State) (more more' : List Duty) → IsShownAt k event → AllByRecursion (IsSayingAt k) more
    → Did event state more event' next more' → SaysAt k event' more'
says_did k event event' state next more more' shown all did =
    record { shows_so = subst (IsShownAt k) (sym did.shows) shown; brings_so = subst (AllByRecursion (IsSayingAt k)) (sym did.brings) all }

all_treatings : (k j s : ℕ) (requests : List OpenRequest) → j ≡ k → AllByRecursion (IsSayingAt k) (treatings j s requests)
all_treatings k j s [] same = tt
all_treatings k j s (request ∷ requests) same = (same, all_treatings k j s requests same)

all_ticking : (k j : ℕ) (sessions : List ℕ) → j ≡ k → AllByRecursion (IsSayingAt k) (map (ticking j) sessions)
all_ticking k j [] same = tt
all_ticking k j (s ∷ sessions) same = (same, all_ticking k j sessions same)

all_drain : (g : Setting) (k j : ℕ) (b : Bool) → j ≡ k → AllByRecursion (IsSayingAt k) (if b then round g j ++ drain j ∷ [] else [])
all_drain g k j true same = all_append (IsSayingAt k) (round g j) (drain j ∷ []) (all_ticking k j (numbers g.sessions) same) (same, tt)
all_drain g k j false same = tt

owed_says : (m : Manner) (k j s : ℕ) (state next : State) (dues : List Due) (event : Option Event) (more : List Duty) → j ≡ k
    → SaysOwed m state j s dues event next more → SaysAt k event more
owed_says m k j s state next [] event more same did = says_did k None event state next [] more tt tt did
owed_says m k j s state next (due ∷ later) event more same (reply, talk, says, did) = says_did k _ event _ next (saying j s ∷ []) more same (same, tt) did

treated_says : (told : Told) (k j s : ℕ) (state next : State) (found : Option OpenRequest) (event : Option Event) (more : List Duty) → j ≡ k
    → Treats told state j s found event next more → SaysAt k event more
treated_says told k j s state next None event more same did = says_did k None event state next [] more tt tt did
treated_says told k j s state next (Some request) event more same (reply, talk, closes, did) = says_did k _ event _ next [] more same tt did

step_says : (g : Setting) (k : ℕ) (state next : State) (duty : Duty) (event : Option Event) (more : List Duty) → IsSayingAt k duty
    → Does g state duty event next more → SaysAt k event more
step_says g k state next (script j lines) event more same step = absurd same
step_says g k state next (drain j) event more same did =
    says_did k None event state next (drain_duties g j state) more tt (all_drain g k j (is_anything_open state) same) did
step_says g k state next (refusing j why) event more same did = says_did k _ event state next [] more same tt did
step_says g k state next (hearing j s text) event more same step = absurd same
step_says g k state next (saying j s) event more same did = owed_says (g.manner s) k j s state next (talk_of state s).due event more same did
step_says g k state next (ticking j s) event more same did =
    says_did k None event state next (treatings j s (talk_of state s).requests) more tt (all_treatings k j s (talk_of state s).requests same) did
step_says g k state next (treating j s id) event more same did =
    treated_says (g.manner s).told k j s state next (request_with id (talk_of state s)) event more same did

-- the output lines have this number, and what is spoken is what they say, after these words
record AreSaidAt (s k : ℕ) (words : List Spoken) (events : List Event) : Type 0 where
  lines : AllByRecursion (HasNumber k) (entries_of events)
  said : spoken s events ≡ words ++ said_by s (entries_of events)

said_after : (s k : ℕ) (event : Option Event) (later : List Event) → IsShownAt k event → AreSaidAt s k [] later → AreSaidAt s k [] (option_to_list event ++ later)
said_after s k None later shown are = are
said_after s k (Some (comes session text)) later shown are = absurd shown
said_after s k (Some (written entry)) later shown are =
    record { lines = (shown, are.lines); said = ap (λ words. spoken_by s entry.what ++ words) are.said }

says_run : (g : Setting) (s k : ℕ) (state last : State) (todo left : List Duty) (events : List Event) → AllByRecursion (IsSayingAt k) todo
    → Runs g state todo events last left → AreSaidAt s k [] events
says_run g s k state last todo left events all (stays same kept) = record { lines = tt; said = refl }
says_run g s k state last todo left events all (does at mid end duty more rest until event later step run) =
    let one = step_says g k at mid duty event more all.0 step in
    said_after s k event later one.shows_so (says_run g s k mid end (more ++ rest) until later (all_append (IsSayingAt k) more rest one.brings_so all.1) run)

-- ---- a run of some duties and then of others

record Split (g : Setting) (state last : State) (todo more : List Duty) (events : List Event) : Type 0 where
  first : List Event
  second : List Event
  mid : State
  both : events ≡ first ++ second
  front : Runs g state todo first mid []
  rest : Runs g mid more second last []

head_is : (x y : Duty) (xs ys : List Duty) → x ∷ xs ≡ y ∷ ys → x ≡ y
head_is x y xs ys e = cc

tail_is : (x y : Duty) (xs ys : List Duty) → x ∷ xs ≡ y ∷ ys → xs ≡ ys
tail_is x y xs ys e = cc

none_has : {A : Type 0} (kept : List Duty) (duty : Duty) (rest : List Duty) → kept ≡ [] → kept ≡ duty ∷ rest → A
none_has [] duty rest none e = absurd (cc e)
none_has (first ∷ kept) duty rest none e = absurd (cc none)

split_run : (g : Setting) (state last : State) (all todo more left : List Duty) (events : List Event) → left ≡ [] → all ≡ todo ++ more
    → Runs g state all events last left → Split g state last todo more events
split_run g state last all [] more left events none e run =
    record {
      first = [];
      second = events;
      mid = state;
      both = refl;
      front = stays state [];
      rest = subst (λ l. Runs g state more events last l) none (subst (λ a. Runs g state a events last left) e run);
    }
split_run g state last all (first ∷ todo) more left events none e (stays same kept) = none_has kept first (todo ++ more) none e
split_run g state last all (first ∷ todo) more left events none e (does at mid end duty brought rest until event later step run) =
    let parts = split_run g mid end (brought ++ rest) (brought ++ todo) more until later none
    (ap (λ duties. brought ++ duties) (tail_is duty first rest (todo ++ more) e) ∙ sym (append_assoc brought todo more)) run in
    record {
      first = option_to_list event ++ parts.first;
      second = parts.second;
      mid = parts.mid;
      both = ap (λ es. option_to_list event ++ es) parts.both ∙ sym (append_assoc (option_to_list event) parts.first parts.second);
      front = does at mid parts.mid first brought todo [] event parts.first (subst (λ d. Does g at d event mid brought) (head_is duty first rest (todo ++ more) e) step) parts.front;
      rest = parts.rest;
    }

-- a single duty that shows nothing and leaves the state is done by the duties that it brings
quiet_run : (g : Setting) (state last : State) (duty : Duty) (more all left : List Duty) (events : List Event)
    → ((event : Option Event) (next : State) (brought : List Duty) → Does g state duty event next brought → Did None state more event next brought)
    → left ≡ [] → all ≡ duty ∷ [] → Runs g state all events last left → Runs g state more events last []
quiet_run g state last duty more all left events did none e (stays same kept) = none_has kept duty [] none e
quiet_run g state last duty more all left events did none e (does at mid end now brought rest until event later step run) =
    let one = did event mid brought (subst (λ d. Does g at d event mid brought) (head_is now duty rest [] e) step) in
    let nothing_else = subst (λ r. Runs g mid (brought ++ r) later end until) (tail_is now duty rest [] e) run in
    let those = subst (λ b. Runs g mid b later end until) (append-nil brought ∙ one.brings) nothing_else in
    let here = subst (λ st. Runs g st more later end until) one.leaves those in
    subst (λ o. Runs g at more (option_to_list o ++ later) end []) (sym one.shows) (subst (λ l. Runs g at more later end l) none here)

-- ---- a script line

-- a session hears its text, and then only says something
hears_run : (g : Setting) (s k session : ℕ) (text : List ℕ) (state last : State) (all left : List Duty) (events : List Event) → all ≡ hearing k session text ∷ []
    → left ≡ [] → Runs g state all events last left → AreSaidAt s k (brought_by s (hears session text)) events
hears_run g s k session text state last all left events e none (stays same kept) = none_has kept (hearing k session text) [] none e
hears_run g s k session text state last all left events e none (does at mid end duty more rest until event later step run) =
    heard (subst (λ d. Does g at d event mid more) (head_is duty (hearing k session text) rest [] e) step)
    (subst (λ r. Runs g mid (more ++ r) later end until) (tail_is duty (hearing k session text) rest [] e) run)
  where
    heard : Does g at (hearing k session text) event mid more → Runs g mid (more ++ []) later end until
        → AreSaidAt s k (brought_by s (hears session text)) (option_to_list event ++ later)
    heard (talk, how, did) after =
        let says = says_run g s k mid end (saying k session ∷ []) until later (refl, tt)
        (subst (λ duties. Runs g mid duties later end until) (append-nil more ∙ did.brings) after) in
        subst (λ o. AreSaidAt s k (brought_by s (hears session text)) (option_to_list o ++ later)) (sym did.shows)
        (record { lines = says.lines; said = ap (λ words. brought_by s (hears session text) ++ words) says.said })

line_run : (g : Setting) (s k : ℕ) (line : Line) (state last : State) (events : List Event) → Runs g state (duties_of k line) events last []
    → AreSaidAt s k (brought_by s line) events
line_run g s k empty state last events run = says_run g s k state last [] [] events tt run
line_run g s k (bad why) state last events run = says_run g s k state last (refusing k why ∷ []) [] events (refl, tt) run
line_run g s k (hears session text) state last events run = hears_run g s k session text state last _ _ events refl refl run

-- ---- a script

record IsSeen (s k : ℕ) (lines : List (List ℕ)) (events : List Event) : Type 0 where
  numbered : AllByRecursion (IsFrom k) (entries_of events)
  shown : spoken s events ≡ seen_talk s k lines (entries_of events)

joined_seen : (s k : ℕ) (line : List ℕ) (lines : List (List ℕ)) (first second : List Event) → AreSaidAt s k (brought_by s (line_of line)) first
    → IsSeen s (k + 1) lines second → IsSeen s k (line ∷ lines) (first ++ second)
joined_seen s k line lines first second said seen =
    let front = entries_of first in
    let rest = entries_of second in
    let brought = brought_by s (line_of line) in
    let split : entries_of (first ++ second) ≡ front ++ rest = entries_of-append first second in
    let at_first : said_at s k front ≡ said_by s front = said_here s k front said.lines in
    let at_second : said_at s k rest ≡ [] =
    said_not s k rest (all_weaker (IsFrom (k + 1)) (HasOther k) rest (λ entry from. after_number entry.line k (omega (arith, from))) seen.numbered) in
    let here : said_at s k (front ++ rest) ≡ said_by s front =
    flat_map-append (λ (entry : Entry). if entry.line == k then spoken_by s entry.what else []) front rest
    ∙ ap (λ words. said_at s k front ++ words) at_second ∙ append-nil (said_at s k front) ∙ at_first in
    let later : seen_talk s (k + 1) lines (front ++ rest) ≡ seen_talk s (k + 1) lines rest =
    seen_later s (k + 1) lines front rest (all_weaker (HasNumber k) (IsBefore (k + 1)) front (λ entry same. omega (arith, same)) said.lines) in
    record {
      numbered =
          subst (AllByRecursion (IsFrom k)) (sym split)
          (all_append (IsFrom k) front rest (all_weaker (HasNumber k) (IsFrom k) front (λ entry same. omega (arith, same)) said.lines)
          (all_weaker (IsFrom (k + 1)) (IsFrom k) rest (λ entry from. omega (arith, from)) seen.numbered));
      shown =
          flat_map-append (spoken_at s) first second
          ∙ ap (λ words. words ++ spoken s second) said.said
          ∙ ap (λ words. (brought ++ said_by s front) ++ words) seen.shown
          ∙ append_assoc brought (said_by s front) (seen_talk s (k + 1) lines rest)
          ∙ ap (λ words. brought ++ (words ++ seen_talk s (k + 1) lines rest)) (sym here)
          ∙ ap (λ words. brought ++ (said_at s k (front ++ rest) ++ words)) (sym later)
          ∙ ap (λ entries. seen_talk s k (line ∷ lines) entries) (sym split);
    }

script_run : (g : Setting) (s k : ℕ) (lines : List (List ℕ)) (state last : State) (events : List Event) → Runs g state (script k lines ∷ []) events last []
    → IsSeen s k lines events
script_run g s k [] state last events run =
    let drained = quiet_run g state last (script k []) (drain k ∷ []) _ _ events (λ event next brought did. did) refl refl run in
    let says = says_run g s k state last (drain k ∷ []) [] events (refl, tt) drained in
    record {
      numbered = all_weaker (HasNumber k) (IsFrom k) (entries_of events) (λ entry same. omega (arith, same)) says.lines;
      shown = says.said ∙ sym (said_here s k (entries_of events) says.lines);
    }
script_run g s k (line ∷ lines) state last events run =
    let duties = duties_of k (line_of line) in
    let rest = script (k + 1) lines ∷ [] in
    let parts = split_run g state last (duties ++ rest) duties rest [] events refl refl
    (quiet_run g state last (script k (line ∷ lines)) (duties ++ rest) _ _ events (λ event next brought did. did) refl refl run) in
    subst (IsSeen s k (line ∷ lines)) (sym parts.both)
    (joined_seen s k line lines parts.first parts.second (line_run g s k (line_of line) state parts.mid parts.first parts.front)
    (script_run g s (k + 1) lines parts.mid last parts.second parts.rest))

pub talks_seen : AreTalksSeen
talks_seen g script_bytes output s right =
    (script_run g s 1 (script_lines script_bytes) _ right.last right.events
    (subst (λ left. Runs g _ (script 1 (script_lines script_bytes) ∷ []) right.events right.last left) right.is_output.0 right.runs)).shown

pub seen_right : AreSeenTalksRight
seen_right g script_bytes output s right less =
    subst (λ words. Talks (g.manner s) new_talk words (talk_of right.last s)) (talks_seen g script_bytes output s right) (talks_right g whole script_bytes output s right less)
