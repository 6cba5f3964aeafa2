use Rattle.std.proofs.Common.{◌∙◌, ◌∷◌, [], ℕ, Option, Err, ap, sym, subst}
use Rattle.hv_message.specs.Meant.{IsReading}
use Rattle.hv_reply.specs.declared.reply.Reply.{Reply}
use Rattle.std.specs.Prelude.{None}
use Rattle.serde_json.specs.View.{view}
use Rattle.hv_asked.specs.declared.why.Why.TheVariants as why
use Rattle.hv_message.specs.Messages.{Reading, as_object_value, id_of_text, reading, reading_of_object}
use Rattle.hv_pick.specs.Word.{word_of}
use Rattle.hv_session.specs.Held.{replies_of}
use Rattle.hv_session.specs.Talk.{Replies, known}
use Rattle.hv_session.proofs.SessionLemmas.{due-is, known-is}
use Rattle.hv_session.proofs.TalkLemmas.{replies_served, replies_malformed, replies_refusal, reading-long, reading-value, id-value}
use Rattle.hv_session.proofs.session.Session.hear_value.Goals as goal

pub returns-then-text-gt-MAX_MESSAGE_BYTES-clause-talk : goal.returns-then-text-gt-MAX_MESSAGE_BYTES-clause-talk
returns-then-text-gt-MAX_MESSAGE_BYTES-clause-talk c =
    let held = c.args.self.now in
    replies_malformed held.tables (word_of c.args.seeds.seed c.args.seeds.stream) held.talk c.args.text.now why.Size None
    (due-is c.self.inside.state c.self.inside.requests.items c.self.inside.drawn held c.self.view_is)
    (reading-long (known held.tables held.talk) c.args.text.now c.if-text-gt-MAX_MESSAGE_BYTES.true)

pub returns-in-Ok-clause-talk : goal.returns-in-Ok-clause-talk
returns-in-Ok-clause-talk c =
    let held = c.args.self.now in
    let text = c.args.text.now in
    let same = known-is c.self.inside.state c.self.inside.requests.items c.self.inside.drawn held c.self.invariant c.self.view_is in
    replies_served held.tables (word_of c.args.seeds.seed c.args.seeds.stream) held.talk c.serve.new.self.talk text c.in-Ok.message (replies_of c.serve.result)
    (due-is c.self.inside.state c.self.inside.requests.items c.self.inside.drawn held c.self.view_is)
    (ap (λ k. reading k text) same ∙ reading-value c.self.inside.state text (view c.args.value.now) c.if-text-gt-MAX_MESSAGE_BYTES.false c.requires ∙ c.in-Ok.ensures.0)
    (id-value text (view c.args.value.now) c.requires ∙ c.in-Ok.ensures.2) c.serve.ensures.talk

pub returns-in-Err-clause-talk : goal.returns-in-Err-clause-talk
returns-in-Err-clause-talk c =
    let held = c.args.self.now in
    let text = c.args.text.now in
    let state = c.self.inside.state in
    let value = view c.args.value.now in
    let words = word_of c.args.seeds.seed c.args.seeds.stream in
    subst (λ (r : Reply). Replies held.tables words held.talk text (r ∷ []) held.talk) (sym c.refused.ensures)
    (replies_refusal held.tables words held.talk text state c.in-Err.refusal
    (due-is state c.self.inside.requests.items c.self.inside.drawn held c.self.view_is)
    (known-is state c.self.inside.requests.items c.self.inside.drawn held c.self.invariant c.self.view_is)
    (subst (λ (told : Reading). IsReading state (Err c.in-Err.refusal) (id_of_text text) told) (sym (reading-value state text value c.if-text-gt-MAX_MESSAGE_BYTES.false c.requires))
    (subst (λ (own : Option ℕ). IsReading state (Err c.in-Err.refusal) own (reading_of_object state (as_object_value value))) (sym (id-value text value c.requires)) c.in-Err.ensures)))
