use Rattle.std.proofs.Common.{◌≡◌, ◌<◌, length, drop, subst, arith}
use Rattle.hv_play.specs.Run.{round}
use Rattle.hv_play.specs.Steps.{at, DoneSoFar}
use Rattle.hv_play.proofs.StepLemmas.{done_nothing, done_more, cut_more, round_more, round_cut, round_end, closed_more, none_waits, on_err_any}
use Rattle.hv_play.proofs.run.do_round.Goals as goal

pub loop-s-init : goal.loop-s-init
loop-s-init g c =
    record {
      done = λ setting suits. done_nothing setting (round setting c.args.number) (at c.args.sessions.now) (g.O.Sink.taken c.args.out.now);
      closed = λ t less. absurd (omega arith);
      later = omega arith;
    }

-- one session more has ticked
pub loop-s-preserved : goal.loop-s-preserved
loop-s-preserved g c =
    let s = c.loop-s.s in
    let talks = c.loop-s.sessions in
    let next = c.answer_all.new.sessions in
    let within : s < length talks = omega arith in
    record {
      done = λ setting suits.
          let less : s < setting.sessions = omega (arith, suits.many, c.requires) in
          done_more setting _ _ _ (at c.args.sessions.now) (at talks) (at next) (g.O.Sink.taken c.args.out.now) (g.O.Sink.taken c.loop-s.out) (g.O.Sink.taken c.answer_all.new.out)
          (c.loop-s.invariant.done setting suits)
          (round_more setting c.args.number s (at talks) (at next) (g.O.Sink.taken c.loop-s.out) (g.O.Sink.taken c.answer_all.new.out) less (c.in_ok-answer_all.ensures.ok setting));
      closed = closed_more s (at talks) (at next) within c.in_ok-answer_all.ensures.closes c.loop-s.invariant.closed;
      later = omega (arith, c.loop-s.invariant.later, c.in_ok-answer_all.ensures.cause.later);
    }

-- a session's tick was cut short
pub returns-in_err-answer_all-clause-err : goal.returns-in_err-answer_all-clause-err
returns-in_err-answer_all-clause-err g c =
    on_err_any c.from_residual.result (λ setting suits.
    let less : c.loop-s.s < setting.sessions = omega (arith, suits.many, c.requires) in
    cut_more setting _ _ (at c.args.sessions.now) (at c.loop-s.sessions) (g.O.Sink.taken c.args.out.now) (g.O.Sink.taken c.loop-s.out) (g.O.Sink.taken c.answer_all.new.out)
    (c.loop-s.invariant.done setting suits)
    (round_cut setting c.args.number c.loop-s.s (at c.loop-s.sessions) (g.O.Sink.taken c.loop-s.out) (g.O.Sink.taken c.answer_all.new.out) less (c.in_err-answer_all.ensures.err setting)))

-- the round is at its end
pub returns-clause-ok : goal.returns-clause-ok
returns-clause-ok g c = λ setting suits.
    let all : c.loop-s.s ≡ setting.sessions = omega (arith, suits.many, c.requires) in
    let done = c.loop-s.invariant.done setting suits in
    let at_end = subst (λ s. DoneSoFar setting (round setting c.args.number) (at c.args.sessions.now) (drop s (round setting c.args.number)) (at c.loop-s.sessions)
    (g.O.Sink.taken c.args.out.now) (g.O.Sink.taken c.loop-s.out)) all done in
    subst (λ left. DoneSoFar setting (round setting c.args.number) (at c.args.sessions.now) left (at c.loop-s.sessions)
    (g.O.Sink.taken c.args.out.now) (g.O.Sink.taken c.loop-s.out)) (round_end setting c.args.number) at_end

-- then no session has an open request
pub returns-clause-closed : goal.returns-clause-closed
returns-clause-closed g c = none_waits c.loop-s.sessions (λ t less. c.loop-s.invariant.closed t (omega arith))
