-- Runs that are cut off after some of their output lines.
use Rattle.std.proofs.Common.{◌≡◌, ◌∙◌, refl, ap, ℕ, List, [], ◌∷◌, ◌++◌, Option, Some, None}
use Rattle.std.specs.Prelude.{option_to_list}
use Rattle.hv_play.specs.declared.entry.Entry.{Entry}
use Rattle.hv_play.specs.Run.{Setting, State, Duty, script, Event, comes, written, Does, Runs, stays, does, start, entries_of}
use Rattle.hv_play.specs.Script.{script_lines}
use Rattle.hv_play.specs.Laws.{ShowsLines}

-- from a state with these duties some run shows just these lines
record ShowsFrom (g : Setting) (state : State) (todo : List Duty) (entries : List Entry) : Type 0 where
  events : List Event
  last : State
  left : List Duty
  runs : Runs g state todo events last left
  shown : entries_of events ≡ entries

nothing_yet : (g : Setting) (state : State) (todo : List Duty) → ShowsFrom g state todo []
nothing_yet g state todo = record { events = []; last = state; left = todo; runs = stays state todo; shown = refl }

-- a step before a run that was cut off
step_before : (g : Setting) (state mid : State) (duty : Duty) (more todo : List Duty) (event : Option Event) (entries shown : List Entry) → Does g state duty event mid more
    → ((later : List Event) → entries_of later ≡ entries → entries_of (option_to_list event ++ later) ≡ shown)
    → ShowsFrom g mid (more ++ todo) entries → ShowsFrom g state (duty ∷ todo) shown
step_before g state mid duty more todo event entries shown step is cut =
    record {
      events = option_to_list event ++ cut.events;
      last = cut.last;
      left = cut.left;
      runs = does state mid cut.last duty more todo cut.left event cut.events step cut.runs;
      shown = is cut.events cut.shown;
    }

same_first : (x y : Entry) (xs ys : List Entry) → x ∷ xs ≡ y ∷ ys → x ≡ y
same_first x y xs ys e = cc

same_later : (x y : Entry) (xs ys : List Entry) → x ∷ xs ≡ y ∷ ys → xs ≡ ys
same_later x y xs ys e = cc

-- each step shows one line at most, so a run can stop after any of its lines
cut_after : (g : Setting) (state last : State) (todo left : List Duty) (events : List Event) (front rest : List Entry) → Runs g state todo events last left
    → entries_of events ≡ front ++ rest → ShowsFrom g state todo front
cut_after g state last todo left events [] rest run e = nothing_yet g state todo
cut_after g state last todo left events (first ∷ front) rest (stays same kept) e = cc
cut_after g state last todo left events (first ∷ front) rest (does at mid end duty more until_now until None later step run) e =
    step_before g at mid duty more until_now None (first ∷ front) (first ∷ front) step (λ shown is. is) (cut_after g mid end (more ++ until_now) until later (first ∷ front) rest run e)
cut_after g state last todo left events (first ∷ front) rest (does at mid end duty more until_now until (Some (comes s text)) later step run) e =
    step_before g at mid duty more until_now (Some (comes s text)) (first ∷ front) (first ∷ front) step (λ shown is. is)
    (cut_after g mid end (more ++ until_now) until later (first ∷ front) rest run e)
cut_after g state last todo left events (first ∷ front) rest (does at mid end duty more until_now until (Some (written entry)) later step run) e =
    step_before g at mid duty more until_now (Some (written entry)) front (first ∷ front) step
    (λ shown is. ap (λ entries. entry ∷ entries) is ∙ ap (λ line. line ∷ front) (same_first entry first (entries_of later) (front ++ rest) e))
    (cut_after g mid end (more ++ until_now) until later front rest run (same_later entry first (entries_of later) (front ++ rest) e))

pub front_of_lines : (g : Setting) (bytes : List ℕ) (front rest : List Entry) → ShowsLines g bytes (front ++ rest) → ShowsLines g bytes front
front_of_lines g bytes front rest shows =
    let cut = cut_after g (start g) shows.last (script 1 (script_lines bytes) ∷ []) shows.left shows.events front rest shows.runs shows.shown in
    record { events = cut.events; last = cut.last; left = cut.left; runs = cut.runs; shown = cut.shown }
