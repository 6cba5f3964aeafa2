use Rattle.std.proofs.Common.{◌∷◌, [], inl, sym, subst}
use Rattle.hv_message.specs.Messages.{cancels}
use Rattle.hv_reply.specs.declared.reply.Reply.TheVariants as reply
use Rattle.hv_session.specs.Talk.{Talk, Pays, after_meaning}
use Rattle.hv_session.proofs.SessionLemmas.{due-is}
use Rattle.hv_session.proofs.TalkLemmas.{pays_cancel}
use Rattle.hv_session.proofs.session.Session.cancel.Goals as goal

pub returns-clause-talk : goal.returns-clause-talk
returns-clause-talk c = λ words.
    let talk = c.args.self.now.talk in
    inl (subst (λ (next : Talk). Pays (after_meaning words talk (cancels c.args.id c.args.request)) (reply.Cancelled c.args.request ∷ reply.Done c.args.id ∷ []) next) (sym c.close.ensures.talk)
    (pays_cancel words talk c.args.id c.args.request (due-is c.self.inside.state c.self.inside.requests.items c.self.inside.drawn c.args.self.now c.self.view_is)))
