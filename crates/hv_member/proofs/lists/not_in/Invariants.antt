use Rattle.hv_member.proofs.GapLemmas.{Sifting}
use Rattle.hv_member.proofs.lists.not_in.Given as goal

abbrev pub invariant-loop-number : goal.invariant-loop-number
invariant-loop-number l = Sifting l.size l.numbers l.found.items l.number l.rest
