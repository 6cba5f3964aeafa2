-- Runs of duties joined, and the output lines among their events.
use Rattle.std.proofs.Common.{◌≡◌, ◌∙◌, sym, refl, ap, subst, List, [], ◌∷◌, ◌++◌, append_assoc, append-nil, Option}
use Rattle.std.specs.Prelude.{option_to_list}
use Rattle.hv_play.specs.declared.entry.Entry.{Entry}
use Rattle.hv_play.specs.Texts.{entries_text, entry_text}
use Rattle.hv_play.specs.Run.{Setting, State, Duty, Event, comes, written, Does, Runs, stays, does, entries_of}

-- a run, and then a run from where it stopped
pub runs_on : (g : Setting) (a b c : State) (todo mid left : List Duty) (first second : List Event)
    → Runs g a todo first b mid → Runs g b mid second c left → Runs g a todo (first ++ second) c left
runs_on g a b c todo mid left first second (stays state same) next = next
runs_on g a b c todo mid left first second (does state after last duty more rest until event later step run) next =
    subst (λ events. Runs g state (duty ∷ rest) events c left) (sym (append_assoc (option_to_list event) later second))
    (does state after c duty more rest left event (later ++ second) step (runs_on g after last c (more ++ rest) until left later second run next))

-- a run with more to be done afterwards
pub before : (g : Setting) (a b : State) (todo left more : List Duty) (events : List Event)
    → Runs g a todo events b left → Runs g a (todo ++ more) events b (left ++ more)
before g a b todo left more events (stays state same) = stays state (same ++ more)
before g a b todo left more events (does state after last duty brought rest until event later step run) =
    does state after last duty brought (rest ++ more) (until ++ more) event later step
    (subst (λ duties. Runs g after duties later last (until ++ more)) (append_assoc brought rest more) (before g after last (brought ++ rest) until more later run))

-- a single step
pub one : (g : Setting) (a b : State) (duty : Duty) (more : List Duty) (event : Option Event)
    → Does g a duty event b more → Runs g a (duty ∷ []) (option_to_list event) b more
one g a b duty more event step =
    subst (λ events. Runs g a (duty ∷ []) events b more) (append-nil (option_to_list event))
    (does a b b duty more [] more event [] step (subst (λ duties. Runs g b duties [] b more) (sym (append-nil more)) (stays b more)))

-- the lines of two runs
pub entries_of-append : (first second : List Event) → entries_of (first ++ second) ≡ entries_of first ++ entries_of second
entries_of-append [] second = refl
entries_of-append (comes s text ∷ first) second = entries_of-append first second
entries_of-append (written entry ∷ first) second = ap (λ entries. entry ∷ entries) (entries_of-append first second)

-- the text of lines and then others
pub entries_text-append : (first second : List Entry) → entries_text (first ++ second) ≡ entries_text first ++ entries_text second
entries_text-append [] second = refl
entries_text-append (entry ∷ first) second =
    ap (λ bytes. entry_text entry ++ bytes) (entries_text-append first second) ∙ sym (append_assoc (entry_text entry) (entries_text first) (entries_text second))
