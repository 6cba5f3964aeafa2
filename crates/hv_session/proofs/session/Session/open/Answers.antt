use Rattle.std.proofs.Common.{inl}
use Rattle.hv_session.proofs.session.Session.open.Goals as goal

pub returns-in-Ok-clause-talk : goal.returns-in-Ok-clause-talk
returns-in-Ok-clause-talk c = λ words. inl (c.in-Ok.ensures.ok words)
