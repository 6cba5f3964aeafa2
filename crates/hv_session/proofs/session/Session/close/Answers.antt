use Rattle.std.proofs.Common.{◌≡◌, ◌∙◌, sym, subst, ap, List}
use Rattle.std.specs.Prelude.{◌==◌, position}
use Rattle.hv_message.specs.Messages.{Known, without}
use Rattle.hv_message.specs.Messages as ids
use Rattle.hv_session.specs.declared.request.OpenRequest.{OpenRequest}
use Rattle.hv_session.specs.Held.{IsSession}
use Rattle.hv_session.specs.Talk.{closed}
use Rattle.hv_session.proofs.SessionLemmas.{session-closed}
use Rattle.hv_session.proofs.session.Session.close.Goals as goal

pub invariant_of-self : goal.invariant_of-self
invariant_of-self c =
    let state = c.self.inside.state in
    let requests = c.self.inside.requests.items in
    let found = λ (rs : List OpenRequest). position (λ (request : OpenRequest). request.id == c.args.id) rs in
    let left : c.remove.new.self.items ≡ closed c.args.id requests
    = c.remove.ensures.items ∙ ap (λ place. without place requests) c.in-Some.ensures ∙ ap (λ rs. without (found rs) requests) c.as_slice.ensures.value in
    subst (λ (k : Known). IsSession k c.remove.new.self.items c.self.inside.drawn) (sym c.drop_id.ensures)
    (subst (λ (rs : List OpenRequest). IsSession (record state { requests = ids.closed c.args.id state.requests }) rs c.self.inside.drawn) (sym left)
    (session-closed state c.args.id requests c.self.inside.drawn c.self.invariant))

pub invariant_of-self-in_default : goal.invariant_of-self-in_default
invariant_of-self-in_default c =
    let state = c.self.inside.state in
    let requests = c.self.inside.requests.items in
    let found = λ (rs : List OpenRequest). position (λ (request : OpenRequest). request.id == c.args.id) rs in
    let left : requests ≡ closed c.args.id requests
    = ap (λ place. without place requests) c.in_default.ensures ∙ ap (λ rs. without (found rs) requests) c.as_slice.ensures.value in
    subst (λ (k : Known). IsSession k requests c.self.inside.drawn) (sym c.drop_id.ensures)
    (subst (λ (rs : List OpenRequest). IsSession (record state { requests = ids.closed c.args.id state.requests }) rs c.self.inside.drawn) (sym left)
    (session-closed state c.args.id requests c.self.inside.drawn c.self.invariant))
