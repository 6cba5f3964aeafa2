use Rattle.std.proofs.Common.{subst, sym}
use Rattle.hv_reply.specs.ReadBack.{IsGiven}
use Rattle.hv_reply.proofs.GivenLemmas.{loaded_is_given}
use Rattle.hv_reply.proofs.tests.loaded.Goals as goal

-- it is the base of a message's table, with no node over it
pub returns : goal.returns
returns c = λ tables. subst (IsGiven tables) (sym c.in_ok-base.ensures) (loaded_is_given tables _ _)
