use Rattle.std.proofs.Common.{◌≡◌, ◌∙◌, ◌∷◌, sym, ap}
use Rattle.std.specs.Prelude.{slice_get}
use Rattle.hv_session.specs.Held.{Held, talk_held}
use Rattle.hv_session.proofs.FirstLemmas.{headed}
use Rattle.hv_session.proofs.SessionLemmas.{due-is}
use Rattle.hv_session.proofs.session.Session.answer_first.Goals as goal

pub returns-clause-some : goal.returns-clause-some
returns-clause-some c =
    let held = c.args.self.now in
    let requests = c.self.inside.requests.items in
    let first = c.in_ok-first.first.now in
    let later = c.remove.new.self.items in
    let left : requests ≡ first ∷ later =
    headed requests first (c.in_ok-first.ensures.value ∙ ap (λ rs. slice_get rs 0) c.deref.ensures.value) ∙ ap (λ rs. first ∷ rs) (sym c.remove.ensures.items) in
    record {
      request = first;
      later = later;
      nothing_due = due-is c.self.inside.state requests c.self.inside.drawn held c.self.view_is;
      first = sym (ap (λ (h : Held). h.talk.requests) c.self.view_is) ∙ left;
      answers = c.last_word-reply.ensures;
      next_is = ap (λ k. talk_held k later c.self.inside.drawn) c.drop_id.ensures ∙ ap (λ (h : Held). record h.talk { requests = later }) c.self.view_is;
    }
