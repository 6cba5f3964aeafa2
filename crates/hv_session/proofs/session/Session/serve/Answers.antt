use Rattle.std.proofs.Common.{◌∷◌, [], List, inl, sym, subst}
use Rattle.std.specs.Arc.{arc_value}
use Rattle.hv_message.specs.Messages.{ends}
use Rattle.hv_message.specs.declared.message.Message.{Message}
use Rattle.hv_message.specs.declared.message.Message.TheVariants as message
use Rattle.hv_pick.specs.Word.{word_of}
use Rattle.hv_reply.specs.declared.reply.Reply.{Reply}
use Rattle.hv_reply.specs.declared.reply.Reply.TheVariants as reply
use Rattle.hv_session.specs.Held.{Serves, replies_of}
use Rattle.hv_session.specs.Talk.{Talk, Pays, after_meaning}
use Rattle.hv_session.proofs.SessionLemmas.{due-is}
use Rattle.hv_session.proofs.TalkLemmas.{pays_one, pays_end}
use Rattle.hv_session.proofs.session.Session.serve.Goals as goal

pub returns-in-Info-clause-talk : goal.returns-in-Info-clause-talk
returns-in-Info-clause-talk c =
    let talk = c.args.self.now.talk in
    let words = word_of c.args.seeds.seed c.args.seeds.stream in
    let quiet = due-is c.self.inside.state c.self.inside.requests.items c.self.inside.drawn c.args.self.now c.self.view_is in
    subst (λ (m : Message). Serves words talk m (reply.Info c.in-Info.id c.of.result ∷ []) talk) (sym c.in-Info.is)
    (subst (λ of. Serves words talk (message.Info c.in-Info.id c.in-Info.of) (reply.Info c.in-Info.id of ∷ []) talk) (sym c.of.ensures)
    (inl (pays_one talk (reply.Info c.in-Info.id (arc_value c.in-Info.of)) quiet)))

pub returns-in-End-clause-talk : goal.returns-in-End-clause-talk
returns-in-End-clause-talk c =
    let talk = c.args.self.now.talk in
    let words = word_of c.args.seeds.seed c.args.seeds.stream in
    let quiet = due-is c.self.inside.state c.self.inside.requests.items c.self.inside.drawn c.args.self.now c.self.view_is in
    subst (λ (m : Message). Serves words talk m (replies_of c.end.result) c.end.new.self.talk) (sym c.in-End.is)
    (inl (subst (λ (rs : List Reply). Pays (after_meaning words talk (ends c.in-End.id)) rs c.end.new.self.talk) (sym c.end.ensures.answer)
    (subst (λ (next : Talk). Pays (after_meaning words talk (ends c.in-End.id)) [] next) (sym c.end.ensures.talk) (pays_end words talk c.in-End.id quiet))))

pub returns-in-Make-clause-talk : goal.returns-in-Make-clause-talk
returns-in-Make-clause-talk c =
    let words = word_of c.args.seeds.seed c.args.seeds.stream in
    subst (λ (m : Message). Serves words c.args.self.now.talk m (replies_of c.make.result) c.make.new.self.talk) (sym c.in-Make.is) (c.make.ensures.talk words)

pub returns-in-View-clause-talk : goal.returns-in-View-clause-talk
returns-in-View-clause-talk c =
    let words = word_of c.args.seeds.seed c.args.seeds.stream in
    subst (λ (m : Message). Serves words c.args.self.now.talk m (replies_of c.open.result) c.open.new.self.talk) (sym c.in-View.is) (c.open.ensures.talk words)

pub returns-in-Cancel-clause-talk : goal.returns-in-Cancel-clause-talk
returns-in-Cancel-clause-talk c =
    let words = word_of c.args.seeds.seed c.args.seeds.stream in
    subst (λ (m : Message). Serves words c.args.self.now.talk m (replies_of c.cancel.result) c.cancel.new.self.talk) (sym c.in-Cancel.is) (c.cancel.ensures.talk words)
