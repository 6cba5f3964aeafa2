use Rattle.std.proofs.Common.{◌≡◌, ◌<◌, ◌≤◌, ℕ, [], drop, length}
use Rattle.hv_play.specs.Run.{Setting, Suits, round, talk_of}
use Rattle.hv_play.specs.Steps.{at, DoneSoFar}
use Rattle.hv_play.proofs.run.do_round.Given as goal

-- the sessions before this one have ticked, and have no open request
abbrev pub invariant-loop-s : goal.invariant-loop-s
invariant-loop-s g l =
    record {
      done : (setting : Setting) → Suits setting (length l.fn.sessions)
          → DoneSoFar setting (round setting l.number) (at l.fn.sessions) (drop l.s (round setting l.number)) (at l.sessions) (g.O.Sink.taken l.fn.out) (g.O.Sink.taken l.out);
      closed : (t : ℕ) → t < l.s → (talk_of (at l.sessions) t).requests ≡ [];
      later : g.O.Sink.faults l.fn.out ≤ g.O.Sink.faults l.out;
    }
