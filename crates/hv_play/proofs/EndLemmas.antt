-- A run that leaves no duty leaves no request open.
use Rattle.std.proofs.Common.{◌≡◌, ◌∙◌, sym, refl, ap, subst, ℕ, zero, suc, ◌+◌, List, [], ◌∷◌, ◌++◌, length, get_or, Bool, true, false, Option, None, append-nil, inl, inr, arith}
use Rattle.std.proofs.lemmas.Bool.{or_parts, ltb-false}
use Rattle.std.specs.List.{list_any}
use Rattle.std.specs.Prelude.{◌⊎◌, nat_lt, if◌then◌else◌}
use Rattle.hv_play.specs.Laws.{LeavesNothingOpen}
use Rattle.hv_play.specs.Run.{Setting, State, Duty, script, drain, refusing, hearing, saying, ticking, treating, Event, Did, Does, Runs, stays, does, duties_of, round, is_anything_open, is_waiting}
use Rattle.hv_play.specs.Script.{line_of, script_lines}
use Rattle.hv_session.specs.declared.request.OpenRequest.{OpenRequest}
use Rattle.hv_session.specs.Talk.{Talk, new_talk}

-- a duty after which nothing is to be done
abbrev IsLast : Duty → Type 0
IsLast (script k lines) = Unit {0}
IsLast (drain k) = Unit {0}
IsLast (refusing k why) = ⊥
IsLast (hearing k s text) = ⊥
IsLast (saying k s) = ⊥
IsLast (ticking k s) = ⊥
IsLast (treating k s id) = ⊥

-- the last of the duties is such a one
abbrev EndsScript : List Duty → Type 0
EndsScript [] = ⊥
EndsScript (duty ∷ []) = IsLast duty
EndsScript (duty ∷ more ∷ duties) = EndsScript (more ∷ duties)

ends_cons : (duty : Duty) (todo : List Duty) → EndsScript todo → EndsScript (duty ∷ todo)
ends_cons duty [] ends = absurd ends
ends_cons duty (first ∷ todo) ends = ends

ends_append : (more todo : List Duty) → EndsScript todo → EndsScript (more ++ todo)
ends_append [] todo ends = ends
ends_append (duty ∷ more) todo ends = ends_cons duty (more ++ todo) (ends_append more todo ends)

-- such a duty brings others that end so, or it brings none, and no request is open
abbrev Ends : State → State → List Duty → Type 0
Ends state next more = EndsScript more ⊎ ((more ≡ []) × (next ≡ state) × (is_anything_open state ≡ false))

brings_last : (state next : State) (event : Option Event) (more brought : List Duty) → EndsScript more → Did None state more event next brought → Ends state next brought
brings_last state next event more brought ends did = inl (subst EndsScript (sym did.brings) ends)

drain_ends_so : (g : Setting) (k : ℕ) (state next : State) (event : Option Event) (brought : List Duty) (b : Bool) → is_anything_open state ≡ b
    → Did None state (if b then round g k ++ drain k ∷ [] else []) event next brought → Ends state next brought
drain_ends_so g k state next event brought true e did = brings_last state next event (round g k ++ drain k ∷ []) brought (ends_append (round g k) (drain k ∷ []) tt) did
drain_ends_so g k state next event brought false e did = inr (did.brings, did.leaves, e)

step_ends : (g : Setting) (state next : State) (duty : Duty) (event : Option Event) (brought : List Duty) → IsLast duty → Does g state duty event next brought
    → Ends state next brought
step_ends g state next (script k []) event brought is did = brings_last state next event (drain k ∷ []) brought tt did
step_ends g state next (script k (line ∷ lines)) event brought is did =
    brings_last state next event (duties_of k (line_of line) ++ script (k + 1) lines ∷ []) brought (ends_append (duties_of k (line_of line)) (script (k + 1) lines ∷ []) tt) did
step_ends g state next (drain k) event brought is did =
    drain_ends_so g k state next event brought (is_anything_open state) refl did
step_ends g state next (refusing k why) event brought is did = absurd is
step_ends g state next (hearing k s text) event brought is did = absurd is
step_ends g state next (saying k s) event brought is did = absurd is
step_ends g state next (ticking k s) event brought is did = absurd is
step_ends g state next (treating k s id) event brought is did = absurd is

-- a run of no duties stays
stays_there : (g : Setting) (state last : State) (todo left : List Duty) (events : List Event) → todo ≡ [] → Runs g state todo events last left → last ≡ state
stays_there g state last todo left events none (stays same kept) = refl
stays_there g state last todo left events none (does at mid end duty more rest until event later step run) = absurd (cc none)

-- the last duty was done
last_done : (g : Setting) (state mid last : State) (more left : List Duty) (later : List Event) → Ends state mid more
    → Runs g mid (more ++ []) later last left → (EndsScript (more ++ []) → is_anything_open last ≡ false) → is_anything_open last ≡ false
last_done g state mid last more left later (inl ends) run then_closed = then_closed (subst EndsScript (sym (append-nil more)) ends)
last_done g state mid last more left later (inr ended) run then_closed =
    let kept : last ≡ mid = stays_there g mid last (more ++ []) left later (append-nil more ∙ ended.0) run in
    ap is_anything_open (kept ∙ ended.1) ∙ ended.2

closed_at_end : (g : Setting) (state last : State) (todo left : List Duty) (events : List Event) → left ≡ [] → EndsScript todo → Runs g state todo events last left
    → is_anything_open last ≡ false
closed_at_end g state last todo left events none ends (stays same kept) = absurd (subst EndsScript none ends)
closed_at_end g state last todo left events none ends (does at mid end duty more [] until event later step run) =
    last_done g at mid end more until later (step_ends g at mid duty event more ends step) run (λ then_ends. closed_at_end g mid end (more ++ []) until later none then_ends run)
closed_at_end g state last todo left events none ends (does at mid end duty more (next ∷ rest) until event later step run) =
    closed_at_end g mid end (more ++ next ∷ rest) until later none (ends_append more (next ∷ rest) ends) run

-- ---- each session

no_requests : (requests : List OpenRequest) → nat_lt 0 (length requests) ≡ false → requests ≡ []
no_requests [] none = refl
no_requests (request ∷ requests) none = absurd (omega (arith, ltb-false 0 (length (request ∷ requests)) none))

none_of_each : (talks : List Talk) (s : ℕ) → list_any is_waiting talks ≡ false → (get_or talks s new_talk).requests ≡ []
none_of_each [] zero none = refl
none_of_each [] (suc s) none = refl
none_of_each (talk ∷ talks) zero none = no_requests talk.requests (or_parts (is_waiting talk) (list_any is_waiting talks) none).0
none_of_each (talk ∷ talks) (suc s) none = none_of_each talks s (or_parts (is_waiting talk) (list_any is_waiting talks) none).1

pub nothing_open : LeavesNothingOpen
nothing_open g script_bytes output s right =
    none_of_each right.last.talks s
    (closed_at_end g _ right.last (script 1 (script_lines script_bytes) ∷ []) right.left right.events right.is_output.0 tt right.runs)
