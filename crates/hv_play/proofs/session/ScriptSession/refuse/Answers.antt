use Rattle.std.proofs.Common.{◌∙◌, sym, ap}
use Rattle.hv_play.proofs.TalkLemmas.{replies_refused}
use Rattle.hv_play.proofs.session.ScriptSession.refuse.Goals as goal

pub returns : goal.returns
returns c = λ words text. replies_refused words c.args.self.now text (sym (ap (λ talk. talk.due) c.self.view_is) ∙ c.self.invariant.nothing_due)
