use Rattle.std.proofs.Common.{◌∙◌, ◌∷◌, [], ap, sym, subst}
use Rattle.hv_reply.specs.declared.reply.Reply.{Reply}
use Rattle.hv_session.specs.Talk.{Replies}
use Rattle.hv_message.specs.Messages.{reading}
use Rattle.hv_pick.specs.Word.{word_of}
use Rattle.hv_session.specs.Held.{replies_of}
use Rattle.hv_session.proofs.SessionLemmas.{due-is, known-is}
use Rattle.hv_session.proofs.TalkLemmas.{replies_served, replies_refusal}
use Rattle.hv_session.proofs.session.Session.hear.Goals as goal

pub returns-in-Ok-clause-talk : goal.returns-in-Ok-clause-talk
returns-in-Ok-clause-talk c =
    let held = c.args.self.now in
    let text = c.args.text.now in
    replies_served held.tables (word_of c.args.seeds.seed c.args.seeds.stream) held.talk c.serve.new.self.talk text c.in-Ok.message (replies_of c.serve.result)
    (due-is c.self.inside.state c.self.inside.requests.items c.self.inside.drawn held c.self.view_is)
    (ap (λ k. reading k text) (known-is c.self.inside.state c.self.inside.requests.items c.self.inside.drawn held c.self.invariant c.self.view_is) ∙ c.in-Ok.ensures.0)
    c.in-Ok.ensures.2 c.serve.ensures.talk

pub returns-in-Err-clause-talk : goal.returns-in-Err-clause-talk
returns-in-Err-clause-talk c =
    let held = c.args.self.now in
    let text = c.args.text.now in
    let words = word_of c.args.seeds.seed c.args.seeds.stream in
    subst (λ (r : Reply). Replies held.tables words held.talk text (r ∷ []) held.talk) (sym c.refused.ensures)
    (replies_refusal held.tables words held.talk text c.self.inside.state c.in-Err.refusal
    (due-is c.self.inside.state c.self.inside.requests.items c.self.inside.drawn held c.self.view_is)
    (known-is c.self.inside.state c.self.inside.requests.items c.self.inside.drawn held c.self.invariant c.self.view_is)
    c.in-Err.ensures)
