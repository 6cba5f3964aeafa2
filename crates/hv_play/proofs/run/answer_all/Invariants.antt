use Rattle.std.proofs.Common.{◌≡◌, ◌≤◌, ◌∷◌, [], length}
use Rattle.hv_play.specs.Run.{Setting, talk_of, ticking, treatings, with_talk}
use Rattle.hv_play.specs.Steps.{at, DoneSoFar}
use Rattle.hv_play.proofs.run.answer_all.Given as goal

-- the requests before the open ones are answered, and the other sessions are as they were
abbrev pub invariant-loop-reply : goal.invariant-loop-reply
invariant-loop-reply g l =
    record {
      done : (setting : Setting) → DoneSoFar setting (ticking l.number l.s ∷ []) (at l.fn.sessions)
          (treatings l.number l.s (talk_of (at l.sessions) l.s).requests) (at l.sessions) (g.O.Sink.taken l.fn.out) (g.O.Sink.taken l.out);
      others : at l.sessions ≡ with_talk (at l.fn.sessions) l.s (talk_of (at l.sessions) l.s);
      later : g.O.Sink.faults l.fn.out ≤ g.O.Sink.faults l.out;
    }

abbrev pub decreases-loop-reply : goal.decreases-loop-reply
decreases-loop-reply g l = length (talk_of (at l.sessions) l.s).requests
