-- The last word of the request that was opened first is one of an open request.
use Rattle.std.proofs.Common.{◌≡◌, ◌∙◌, sym, refl, ap, subst, List, [], ◌∷◌, length, Bool, Some, None, arith}
use Rattle.std.proofs.lemmas.Bool.{eq-eqb, lt-ltb}
use Rattle.std.specs.Prelude.{cond, drop, position, slice_get}
use Rattle.std.specs.List.{position_or_len}
use Rattle.hv_message.specs.Messages.{without}
use Rattle.hv_reply.specs.declared.reply.Reply.{Reply}
use Rattle.hv_session.specs.declared.request.OpenRequest.{OpenRequest}
use Rattle.hv_session.specs.Held.{AnswersFirst}
use Rattle.hv_session.specs.Talk.{Talk, Due, Manner, Says, closed, request_with}
use Rattle.hv_session.proofs.SessionLemmas.{has_id, place_within}

-- a request stands at the head of its list
pub position-first : (request : OpenRequest) (later : List OpenRequest) → position (has_id request.id) (request ∷ later) ≡ Some 0
position-first request later =
    let before : position_or_len (has_id request.id) (request ∷ later) ≡ 0 = rw (eq-eqb request.id request.id refl) refl in
    ap (λ n. place_within n (length (request ∷ later))) before
    ∙ ap (λ (within : Bool). cond within (Some 0) None) (lt-ltb 0 (length (request ∷ later)) (omega arith))

-- without the request of its id a list that it heads is the rest
pub closed-first : (request : OpenRequest) (later : List OpenRequest) → closed request.id (request ∷ later) ≡ later
closed-first request later = ap (λ place. without place (request ∷ later)) (position-first request later)

-- the request with its id is the first
pub with-first : (talk : Talk) (request : OpenRequest) (later : List OpenRequest) → talk.requests ≡ request ∷ later → request_with request.id talk ≡ Some request
with-first talk request later first = rw (first, eq-eqb request.id request.id refl) refl

-- so a session that answers its first request says what is right
pub says-first : (m : Manner) (talk next : Talk) (r : Reply) → AnswersFirst talk r next → Says m talk.due talk r next
says-first m talk next r h =
    let request = h.request in
    let left : closed request.id talk.requests ≡ h.later = ap (closed request.id) h.first ∙ closed-first request h.later in
    subst (λ (due : List Due). Says m due talk r next) (sym h.nothing_due) (
      request.id,
      request,
      with-first talk request h.later h.first,
      record {
        nothing_due = h.nothing_due;
        answered = h.answers m.told;
        next_is = h.next_is ∙ ap (λ requests. record talk { requests = requests }) (sym left);
      },
    )

-- a list with an element at its head is that one and the rest
pub headed : (requests : List OpenRequest) (first : OpenRequest) → Some first ≡ slice_get requests 0 → requests ≡ first ∷ drop 1 requests
headed [] first e = absurd (cc e)
headed (request ∷ requests) first e = let same : request ≡ first = cc e in ap (λ (r : OpenRequest). r ∷ requests) same
