use Rattle.std.proofs.Common.{◌≡◌, ◌∷◌, [], length, sym, subst, arith}
use Rattle.hv_play.specs.Run.{script, drain}
use Rattle.hv_play.specs.Script.{script_lines}
use Rattle.hv_play.specs.Steps.{at, DoneSoFar}
use Rattle.hv_play.proofs.StepLemmas.{done_nothing, done_more, cut_more, lines_done, on_err_any, no_lines, suits_on}
use Rattle.hv_play.proofs.run.do_lines.Goals as goal

pub loop-rest-init : goal.loop-rest-init
loop-rest-init g c =
    record {
      done = λ setting suits. done_nothing setting (script 1 (script_lines c.args.bytes.now) ∷ []) (at c.args.sessions.now) (g.O.Sink.taken c.args.out.now);
      few = omega arith;
      later = omega arith;
    }

-- one line more is done
pub loop-rest-preserved : goal.loop-rest-preserved
loop-rest-preserved g c =
    let same : length c.loop-rest.sessions ≡ length c.args.sessions.now = omega (arith, c.loop-rest.auto.sessions, c.requires.all) in
    record {
      done = λ setting suits.
          done_more setting _ _ _ (at c.args.sessions.now) (at c.loop-rest.sessions) (at c.do_next.new.sessions) (g.O.Sink.taken c.args.out.now) (g.O.Sink.taken c.loop-rest.out) (g.O.Sink.taken c.do_next.new.out)
          (c.loop-rest.invariant.done setting suits) (c.in_ok-rest.ensures.ok setting (suits_on setting _ _ same suits));
      few = omega (arith, c.loop-rest.invariant.few, c.in_ok-rest.ensures.shorter);
      later = omega (arith, c.loop-rest.invariant.later, c.in_ok-rest.ensures.cause.later);
    }

-- a front of the line's output was written
pub returns-in_err-rest-clause-err : goal.returns-in_err-rest-clause-err
returns-in_err-rest-clause-err g c =
    let same : length c.loop-rest.sessions ≡ length c.args.sessions.now = omega (arith, c.loop-rest.auto.sessions, c.requires.all) in
    on_err_any c.from_residual.result (λ setting suits.
    cut_more setting _ _ (at c.args.sessions.now) (at c.loop-rest.sessions) (g.O.Sink.taken c.args.out.now) (g.O.Sink.taken c.loop-rest.out) (g.O.Sink.taken c.do_next.new.out)
    (c.loop-rest.invariant.done setting suits) (c.in_err-rest.ensures.err setting (suits_on setting _ _ same suits)))

-- no line is left
pub returns-clause-ok : goal.returns-clause-ok
returns-clause-ok g c = λ setting suits.
    let number = c.loop-rest.number in
    let state = at c.loop-rest.sessions in
    let taken = g.O.Sink.taken c.loop-rest.out in
    done_more setting _ _ _ (at c.args.sessions.now) state state (g.O.Sink.taken c.args.out.now) taken taken (c.loop-rest.invariant.done setting suits)
    (subst (λ lines. DoneSoFar setting (script number lines ∷ []) state (drain number ∷ []) state taken taken) (sym (no_lines c.loop-rest.rest.now (sym c.loop-rest-test.ensures)))
    (lines_done setting number state taken))
