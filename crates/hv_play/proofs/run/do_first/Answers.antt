use Rattle.std.proofs.Common.{◌∷◌, [], sym, subst}
use Rattle.hv_play.specs.Run.{script}
use Rattle.hv_play.specs.Script.{script_lines}
use Rattle.hv_play.specs.Steps.{at, CutShort, entries_by}
use Rattle.hv_play.proofs.StepLemmas.{line_done, line_cut, cut_here, done_nothing, on_err_any, rest_lines}
use Rattle.hv_play.proofs.run.do_first.Goals as goal

-- memory was refused before the line showed anything
pub returns-in-Err-clause-err : goal.returns-in-Err-clause-err
returns-in-Err-clause-err g c = λ setting suits.
    let todo = script c.args.number (script_lines c.args.rest.now) ∷ [] in
    let state = at c.args.sessions.now in
    let taken = g.O.Sink.taken c.args.out.now in
    cut_here setting todo todo state state taken taken (done_nothing setting todo state taken)

-- a front of the line's output was written
pub returns-in_err-write_answer-clause-err : goal.returns-in_err-write_answer-clause-err
returns-in_err-write_answer-clause-err g c =
    on_err_any c.from_residual.result (λ setting suits.
    subst (λ lines. CutShort setting (script c.args.number lines ∷ []) (at c.args.sessions.now) (g.O.Sink.taken c.args.out.now) (g.O.Sink.taken c.write_answer.new.sink)) (sym c.split_line.ensures.lines)
    (line_cut setting c.args.number c.split_line.result.0.now (script_lines c.split_line.result.1.now) (at c.args.sessions.now) (at c.do_line.new.sessions) (entries_by c.args.number c.in-Ok.answer)
    (g.O.Sink.taken c.args.out.now) (g.O.Sink.taken c.write_answer.new.sink) (c.in-Ok.ensures setting c.args.number suits) c.in_err-write_answer.ensures.err))

-- the line is done
pub returns-clause-ok : goal.returns-clause-ok
returns-clause-ok g c = λ setting suits.
    rest_lines setting c.args.number (script_lines c.args.rest.now) c.split_line.result.0.now (script_lines c.split_line.result.1.now) (at c.args.sessions.now) (at c.do_line.new.sessions) _ _ c.split_line.ensures.lines
    (line_done setting c.args.number c.split_line.result.0.now (script_lines c.split_line.result.1.now) (at c.args.sessions.now) (at c.do_line.new.sessions) (entries_by c.args.number c.in-Ok.answer)
    (g.O.Sink.taken c.args.out.now) (g.O.Sink.taken c.write_answer.new.sink) (c.in-Ok.ensures setting c.args.number suits) c.in_ok-write_answer.ensures.ok)
