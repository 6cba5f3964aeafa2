use Rattle.std.proofs.Common.{ℕ, Option, sym, subst}
use Rattle.hv_message.specs.declared.message.Message.TheVariants as message
use Rattle.hv_pick.specs.Word.{word_of}
use Rattle.hv_session.specs.Held.{Serves, replies_of}
use Rattle.hv_session.proofs.session.Session.sample.Goals as goal

pub returns-in-Some-clause-talk : goal.returns-in-Some-clause-talk
returns-in-Some-clause-talk c =
    let words = word_of c.args.seeds.seed c.args.seeds.stream in
    subst (λ (seed : Option ℕ). Serves words c.args.self.now.talk (message.Sample c.args.id c.args.of.now c.args.threshold seed) (replies_of c.sample_by.result) c.sample_by.new.self.talk)
    (sym c.in-Some.is) (c.sample_by.ensures.talk words)
