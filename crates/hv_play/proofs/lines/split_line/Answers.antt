use Rattle.std.proofs.Common.{arith}
use Rattle.hv_play.proofs.LineLemmas.{script_lines-split, script_lines-last, rest_after}
use Rattle.hv_play.proofs.lines.split_line.Goals as goal

-- the line goes up to the first newline
pub returns-in-Some-clause-lines : goal.returns-in-Some-clause-lines
returns-in-Some-clause-lines c =
    let first = c.in-Some.ensures.0 in
    rest_after c.args.rest.now c.in-Some.end
    (script_lines-split c.args.rest.now c.in-Some.end first.high c.in-Some.ensures.1 (λ m less is. first.before m (omega arith) less is))

-- bytes without a newline are the last line
pub returns-in-None-clause-lines : goal.returns-in-None-clause-lines
returns-in-None-clause-lines c = script_lines-last c.args.rest.now c.requires (λ m less is. c.in-None.ensures m (omega arith) less is)
