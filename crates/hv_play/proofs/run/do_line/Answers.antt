use Rattle.std.proofs.Common.{sym, ◌∙◌, ap}
use Rattle.std.specs.Prelude.{option_map}
use Rattle.serde_json.specs.View.{view}
use Rattle.hv_play.specs.Steps.{at, entries_by}
use Rattle.hv_play.proofs.StepLemmas.{line_empty, line_json, line_no_json}
use Rattle.hv_play.proofs.run.do_line.Goals as goal

pub returns-then-is_empty : goal.returns-then-is_empty
returns-then-is_empty c = λ g k suits. line_empty g k c.args.line.now (at c.args.sessions.now) (sym c.if-is_empty.ensures)

pub returns-in-None : goal.returns-in-None
returns-in-None c = λ g k suits.
    line_no_json g k c.args.line.now (at c.args.sessions.now) (sym c.if-is_empty.ensures) (sym c.in_ok-value.ensures.value ∙ ap (option_map view) c.in-None.is)

pub returns-in-Some : goal.returns-in-Some
returns-in-Some c = λ g k suits.
    line_json g k c.args.line.now (view c.in-Some.value) (at c.args.sessions.now) (at c.do_value.new.sessions) (entries_by k c.do_value.result) (sym c.if-is_empty.ensures)
    (sym c.in_ok-value.ensures.value ∙ ap (option_map view) c.in-Some.is) (c.do_value.ensures g k suits)
