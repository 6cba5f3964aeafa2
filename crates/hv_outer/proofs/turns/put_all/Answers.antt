use Rattle.std.proofs.lemmas.List.{take_rest}
use Rattle.hv_outer.proofs.TurnLemmas.{putting_more}
use Rattle.hv_outer.proofs.turns.put_all.Goals as goal

-- the front grew by what the turn took
pub loop-rest-preserved : goal.loop-rest-preserved
loop-rest-preserved g c = rw take_rest (putting_more _ _ _ _ _ _ _ _ _ c.loop-rest.invariant c.in_ok-count.ensures.bytes c.put.ensures.cause.later)
