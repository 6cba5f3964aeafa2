use Rattle.std.proofs.Common.{◌∷◌, [], sym}
use Rattle.hv_play.specs.Run.{drain, round}
use Rattle.hv_play.specs.Steps.{at}
use Rattle.hv_play.proofs.StepLemmas.{drain_begins, drain_ends, done_before, cut_before, done_more, cut_more, on_err_any}
use Rattle.hv_play.proofs.run.do_drain.Goals as goal

-- the round was cut short
pub returns-in_err-do_round-clause-err : goal.returns-in_err-do_round-clause-err
returns-in_err-do_round-clause-err g c =
    on_err_any c.from_residual.result (λ setting suits.
    let state = at c.args.sessions.now in
    let taken = g.O.Sink.taken c.args.out.now in
    let taken' = g.O.Sink.taken c.do_round.new.out in
    cut_more setting _ _ state state taken taken taken'
    (drain_begins setting c.args.number state taken (sym c.if-is_any_waiting.ensures))
    (cut_before setting (round setting c.args.number) (drain c.args.number ∷ []) state taken taken' (c.in_err-do_round.ensures.err setting suits)))

-- after the round nothing is open
pub returns-in_ok-do_round-clause-ok : goal.returns-in_ok-do_round-clause-ok
returns-in_ok-do_round-clause-ok g c = λ setting suits.
    let state = at c.args.sessions.now in
    let next = at c.do_round.new.sessions in
    let taken = g.O.Sink.taken c.args.out.now in
    let taken' = g.O.Sink.taken c.do_round.new.out in
    done_more setting _ _ _ state next next taken taken' taken'
    (done_more setting _ _ _ state state next taken taken taken'
    (drain_begins setting c.args.number state taken (sym c.if-is_any_waiting.ensures))
    (done_before setting (round setting c.args.number) [] (drain c.args.number ∷ []) state next taken taken' (c.in_ok-do_round.ensures.ok setting suits)))
    (drain_ends setting c.args.number next taken' c.in_ok-do_round.ensures.closed)

-- nothing is open
pub returns-else-is_any_waiting-clause-ok : goal.returns-else-is_any_waiting-clause-ok
returns-else-is_any_waiting-clause-ok g c = λ setting suits.
    drain_ends setting c.args.number (at c.args.sessions.now) (g.O.Sink.taken c.args.out.now) (sym c.if-is_any_waiting.ensures)
