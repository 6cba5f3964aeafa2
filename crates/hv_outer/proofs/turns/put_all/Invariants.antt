use Rattle.std.proofs.Common.{length}
use Rattle.hv_outer.proofs.TurnLemmas.{Putting}
use Rattle.hv_outer.proofs.turns.put_all.Given as goal

abbrev pub invariant-loop-rest : goal.invariant-loop-rest
invariant-loop-rest g l = Putting (g.O.Sink.taken l.fn.out) (g.O.Sink.taken l.out) (g.O.Sink.faults l.fn.out) (g.O.Sink.faults l.out) l.bytes l.rest

abbrev pub decreases-loop-rest : goal.decreases-loop-rest
decreases-loop-rest g l = length l.rest
