use Rattle.std.proofs.Common.{◌≡◌}
use Rattle.std.specs.Prelude.{replicate}
use Rattle.hv_session.specs.Talk.{new_talk}
use Rattle.hv_play.proofs.run.new_sessions.Given as goal

-- as many sessions as turns, none of which has heard anything
abbrev pub invariant-loop-s : goal.invariant-loop-s
invariant-loop-s l = l.sessions.items ≡ replicate l._s new_talk
