use Rattle.std.proofs.Common.{◌+◌, ◌-◌, vec_len}
use Rattle.hv_outer.proofs.TurnLemmas.{Reading}
use Rattle.hv_outer.proofs.turns.read_all.Given as goal

abbrev pub invariant-loop-turn : goal.invariant-loop-turn
invariant-loop-turn g l = Reading (g.I.Source.left l.fn.source) (g.I.Source.left l.source) (g.I.Source.faults l.fn.source) (g.I.Source.faults l.source) l.bytes.items

abbrev pub decreases-loop-turn : goal.decreases-loop-turn
decreases-loop-turn g l = l.limit + 1 - vec_len l.bytes
