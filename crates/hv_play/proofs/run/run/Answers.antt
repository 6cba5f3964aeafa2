use Rattle.std.proofs.Common.{◌≡◌, ◌∙◌, length, ap, arith}
use Rattle.std.proofs.lemmas.List.{length-replicate}
use Rattle.hv_session.specs.Talk.{new_talk}
use Rattle.hv_play.specs.Steps.{at}
use Rattle.hv_play.proofs.StepLemmas.{wrote_whole, wrote_cut, wrote_lines, wrote_nothing, on_ok_then, on_err_any, on_err_then, suits_on}
use Rattle.hv_play.proofs.run.run.Goals as goal

-- memory was refused before any line was done
pub returns-in-Err-clause-cut : goal.returns-in-Err-clause-cut
returns-in-Err-clause-cut g c = λ setting suits. wrote_nothing setting c.args.bytes.now (g.O.Sink.taken c.args.out.now)

-- the lines were cut short
pub returns-in_err-number-clause-cut : goal.returns-in_err-number-clause-cut
returns-in_err-number-clause-cut g c =
    let many : length c.as_mut_slice-all.result.now ≡ 16 = ap length (c.as_mut_slice-all.ensures.value ∙ c.in-Ok.ensures) ∙ length-replicate 16 new_talk in
    on_err_any c.from_residual.result (λ setting suits.
    wrote_lines setting c.args.bytes.now (at c.as_mut_slice-all.result.now) 16 (g.O.Sink.taken c.args.out.now) (g.O.Sink.taken c.do_lines.new.out) suits
    (ap at (c.as_mut_slice-all.ensures.value ∙ c.in-Ok.ensures)) (c.in_err-number.ensures.err setting (suits_on setting 16 _ many suits)))

-- the lines and then the drain are done
pub returns-clause-done : goal.returns-clause-done
returns-clause-done g c =
    let many : length c.as_mut_slice-all.result.now ≡ 16 = ap length (c.as_mut_slice-all.ensures.value ∙ c.in-Ok.ensures) ∙ length-replicate 16 new_talk in
    let still : length c.do_lines.new.sessions ≡ 16 = omega arith in
    on_ok_then c.do_drain.result (λ drained setting suits.
    wrote_whole setting c.args.bytes.now (at c.as_mut_slice-all.result.now) (at c.do_lines.new.sessions) (at c.do_drain.new.sessions) 16 c.in_ok-number.number
    (g.O.Sink.taken c.args.out.now) (g.O.Sink.taken c.do_lines.new.out) (g.O.Sink.taken c.do_drain.new.out) suits
    (ap at (c.as_mut_slice-all.ensures.value ∙ c.in-Ok.ensures)) (c.in_ok-number.ensures.ok setting (suits_on setting 16 _ many suits))
    (drained setting (suits_on setting 16 _ still suits)))
    c.do_drain.ensures.ok

-- the lines are done and the drain was cut short
pub returns-clause-cut : goal.returns-clause-cut
returns-clause-cut g c =
    let many : length c.as_mut_slice-all.result.now ≡ 16 = ap length (c.as_mut_slice-all.ensures.value ∙ c.in-Ok.ensures) ∙ length-replicate 16 new_talk in
    let still : length c.do_lines.new.sessions ≡ 16 = omega arith in
    on_err_then c.do_drain.result (λ drained setting suits.
    wrote_cut setting c.args.bytes.now (at c.as_mut_slice-all.result.now) (at c.do_lines.new.sessions) 16 c.in_ok-number.number
    (g.O.Sink.taken c.args.out.now) (g.O.Sink.taken c.do_lines.new.out) (g.O.Sink.taken c.do_drain.new.out) suits
    (ap at (c.as_mut_slice-all.ensures.value ∙ c.in-Ok.ensures)) (c.in_ok-number.ensures.ok setting (suits_on setting 16 _ many suits))
    (drained setting (suits_on setting 16 _ still suits)))
    c.do_drain.ensures.err
