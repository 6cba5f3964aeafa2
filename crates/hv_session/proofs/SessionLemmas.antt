-- A session keeps to itself as its requests come and go.
use Rattle.std.proofs.Common.{◌≡◌, ◌∙◌, sym, refl, ap, subst, ℕ, zero, suc, ◌≤◌, arith, List, [], ◌∷◌, ◌++◌, length, map, ◌+◌, Bool, Option, Some, None, take, drop}
use Rattle.std.specs.Prelude.{◌==◌, position, not, nat_lt, cond}
use Rattle.std.specs.List.{AllByRecursion, position_or_len}
use Rattle.std.proofs.lemmas.List.{map-append, take-map, drop-map, length-append, length-map}
use Rattle.hv_lineage.specs.Lineages.{TermOver}
use Rattle.hv_message.specs.Messages.{Known, without}
use Rattle.hv_message.specs.Messages as ids
use Rattle.hv_session.specs.declared.request.OpenRequest.{OpenRequest}
use Rattle.hv_session.specs.Held.{Held, IsFit, IsSession, talk_held}
use Rattle.hv_session.specs.Talk.{Talk, closed, known}

abbrev ids_of : List OpenRequest → List ℕ
ids_of requests = map (λ (request : OpenRequest). request.id) requests

abbrev is_id : ℕ → ℕ → Bool
is_id id request = request == id

abbrev pub has_id : ℕ → OpenRequest → Bool
has_id id request = request.id == id

-- how many ids stand before the first that passes
prefix-ids : (id : ℕ) (requests : List OpenRequest) → position_or_len (is_id id) (ids_of requests) ≡ position_or_len (has_id id) requests
prefix-ids id [] = refl
prefix-ids id (request ∷ requests) = ap (λ n. cond (not (request.id == id)) (1 + n) 0) (prefix-ids id requests)

abbrev pub place_within : ℕ → ℕ → Option ℕ
place_within place n = cond (nat_lt place n) (Some place) None

-- the place of an id among the ids is that among the requests
pub position-ids : (id : ℕ) (requests : List OpenRequest) → position (is_id id) (ids_of requests) ≡ position (has_id id) requests
position-ids id requests =
    ap (λ n. place_within n (length (ids_of requests))) (prefix-ids id requests)
    ∙ ap (place_within (position_or_len (has_id id) requests)) (length-map requests (λ (request : OpenRequest). request.id))

pub ids-without : (place : Option ℕ) (requests : List OpenRequest) → ids_of (without place requests) ≡ without place (ids_of requests)
ids-without None requests = refl
ids-without (Some place) requests =
    map-append (λ (request : OpenRequest). request.id) (take place requests) (drop (suc place) requests)
    ∙ ap (λ ids. ids ++ ids_of (drop (suc place) requests)) (sym (take-map (λ (request : OpenRequest). request.id) place requests))
    ∙ ap (λ ids. take place (ids_of requests) ++ ids) (sym (drop-map (λ (request : OpenRequest). request.id) (suc place) requests))

fit-take : (n : ℕ) (requests : List OpenRequest) → AllByRecursion IsFit requests → AllByRecursion IsFit (take n requests)
fit-take zero requests h = tt
fit-take (suc n) [] h = tt
fit-take (suc n) (request ∷ requests) h = (h.0, fit-take n requests h.1)

fit-drop : (n : ℕ) (requests : List OpenRequest) → AllByRecursion IsFit requests → AllByRecursion IsFit (drop n requests)
fit-drop zero requests h = h
fit-drop (suc n) [] h = tt
fit-drop (suc n) (request ∷ requests) h = fit-drop n requests h.1

pub fit-append : (a b : List OpenRequest) → AllByRecursion IsFit a → AllByRecursion IsFit b → AllByRecursion IsFit (a ++ b)
fit-append [] b h k = k
fit-append (request ∷ a) b h k = (h.0, fit-append a b h.1 k)

pub fit-without : (place : Option ℕ) (requests : List OpenRequest) → AllByRecursion IsFit requests → AllByRecursion IsFit (without place requests)
fit-without None requests h = h
fit-without (Some place) requests h = fit-append (take place requests) (drop (suc place) requests) (fit-take place requests h) (fit-drop (suc place) requests h)

-- without the first request of an id a session keeps to itself
pub session-closed : (k : Known) (id : ℕ) (requests : List OpenRequest) (drawn : ℕ) → IsSession k requests drawn
    → IsSession (record k { requests = ids.closed id k.requests }) (closed id requests) drawn
session-closed k id requests drawn h = record {
  ids = ap (ids.closed id) h.ids ∙ ap (λ place. without place (ids_of requests)) (position-ids id requests) ∙ sym (ids-without (position (has_id id) requests) requests);
  fit = fit-without (position (has_id id) requests) requests h.fit;
  made = h.made;
}

-- with one object more a session keeps to itself
pub session-grown : (k : Known) (made : TermOver) (requests : List OpenRequest) (drawn : ℕ) → IsSession k requests drawn
    → IsSession (record k { objects = k.objects ++ made ∷ [] }) requests drawn
session-grown k made requests drawn h = record {
  ids = h.ids;
  fit = h.fit;
  made = let more = length-append k.objects (made ∷ []) in let before = h.made in omega (arith, more, before);
}

-- also where a seed was drawn for it
pub session-drawn : (k : Known) (made : TermOver) (requests : List OpenRequest) (drawn : ℕ) → IsSession k requests drawn
    → IsSession (record k { objects = k.objects ++ made ∷ [] }) requests (drawn + 1)
session-drawn k made requests drawn h = record {
  ids = h.ids;
  fit = h.fit;
  made = let more = length-append k.objects (made ∷ []) in let before = h.made in omega (arith, more, before);
}

-- what contracts see of a session
abbrev pub seen : Known → List OpenRequest → ℕ → Held
seen k requests drawn = record { tables = k.tables; talk = talk_held k requests drawn }

-- what it knows is what its talk says
pub known-is : (k : Known) (requests : List OpenRequest) (drawn : ℕ) (held : Held) → IsSession k requests drawn → seen k requests drawn ≡ held
    → known held.tables held.talk ≡ k
known-is k requests drawn held keeps is =
    ap (λ (h : Held). known h.tables h.talk) (sym is) ∙ ap (λ numbers. record k { requests = numbers }) (sym keeps.ids)

-- and it owes nothing
pub due-is : (k : Known) (requests : List OpenRequest) (drawn : ℕ) (held : Held) → seen k requests drawn ≡ held → held.talk.due ≡ []
due-is k requests drawn held is = sym (ap (λ (h : Held). h.talk.due) is)
