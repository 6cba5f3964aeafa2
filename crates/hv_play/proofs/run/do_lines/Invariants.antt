use Rattle.std.proofs.Common.{◌≤◌, ◌+◌, ◌∷◌, [], length}
use Rattle.hv_play.specs.Run.{Setting, Suits, script}
use Rattle.hv_play.specs.Script.{script_lines}
use Rattle.hv_play.specs.Steps.{at, DoneSoFar}
use Rattle.hv_play.proofs.run.do_lines.Given as goal

-- the lines before the rest are done, and there are no more of them than bytes
abbrev pub invariant-loop-rest : goal.invariant-loop-rest
invariant-loop-rest g l =
    record {
      done : (setting : Setting) → Suits setting (length l.fn.sessions)
          → DoneSoFar setting (script 1 (script_lines l.fn.bytes) ∷ []) (at l.fn.sessions) (script l.number (script_lines l.rest) ∷ []) (at l.sessions)
          (g.O.Sink.taken l.fn.out) (g.O.Sink.taken l.out);
      few : l.number + length l.rest ≤ length l.fn.bytes + 1;
      later : g.O.Sink.faults l.fn.out ≤ g.O.Sink.faults l.out;
    }

abbrev pub decreases-loop-rest : goal.decreases-loop-rest
decreases-loop-rest g l = length l.rest
