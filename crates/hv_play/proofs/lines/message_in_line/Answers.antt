use Rattle.std.proofs.Common.{codes, sym}
use Rattle.serde_json.specs.View.{view}
use Rattle.hv_play.proofs.ValueLemmas.{some_within}
use Rattle.hv_play.proofs.lines.message_in_line.Goals as goal

pub returns-then-not-holds_float-clause-nests : goal.returns-then-not-holds_float-clause-nests
returns-then-not-holds_float-clause-nests c =
    some_within (codes "msg") (view c.args.value.now) (view c.in_ok-message.message.now) (sym c.in_ok-message.ensures)
