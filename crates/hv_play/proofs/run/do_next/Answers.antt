use Rattle.hv_play.specs.Steps.{at}
use Rattle.hv_play.proofs.LineLemmas.{script_lines-newline}
use Rattle.hv_play.proofs.StepLemmas.{empty_line_done}
use Rattle.hv_play.proofs.run.do_next.Goals as goal

-- an empty line shows nothing
pub returns-then-rest-eq10-clause-ok : goal.returns-then-rest-eq10-clause-ok
returns-then-rest-eq10-clause-ok g c = λ setting suits.
    empty_line_done setting c.args.number _ _ (at c.args.sessions.now) (g.O.Sink.taken c.args.out.now)
    (script_lines-newline c.args.rest.now c.requires.some c.if-rest-eq10.true)
