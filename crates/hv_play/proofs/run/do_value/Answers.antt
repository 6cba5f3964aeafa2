use Rattle.std.proofs.Common.{◌<◌, ◌∙◌, length, sym, ap, subst, arith}
use Rattle.serde_json.specs.View.{view}
use Rattle.serde_json.specs.Written.{compact_text}
use Rattle.std.specs.Prelude.{Some}
use Rattle.std.proofs.lemmas.List.{set-get_or}
use Rattle.hv_pick.specs.Word.{word_of}
use Rattle.hv_session.specs.Held.{replies_of}
use Rattle.hv_play.specs.declared.entry.LineAnswer.TheVariants.{Bad}
use Rattle.hv_play.specs.Run.{duties_of}
use Rattle.hv_play.specs.Script.{line_of_value, text_or_raw}
use Rattle.hv_play.specs.Steps.{at, Shows, entries_by}
use Rattle.hv_play.proofs.LineLemmas.{line_of_value-no_session, line_of_value-no_text}
use Rattle.hv_play.proofs.StepLemmas.{value_bad, value_heard}
use Rattle.hv_play.proofs.run.do_value.Goals as goal

-- no session is named
pub returns-in_default : goal.returns-in_default
returns-in_default c = λ g k suits.
    let value = view c.args.value.now in
    let talks = c.args.sessions.now in
    subst (λ why. Shows g (duties_of k (line_of_value (Some value))) (at talks) (entries_by k (Bad why)) (at talks)) (sym c.why_bad.ensures)
    (value_bad g k value (at talks) (line_of_value-no_session value (sym c.in_default.ensures.session)))

-- the session hears a message
pub returns-in-Some-message_in_line : goal.returns-in-Some-message_in_line
returns-in-Some-message_in_line c = λ g k suits.
    let value = view c.args.value.now in
    let talks = c.args.sessions.now in
    let s = c.in-Some.s in
    let within : s < length talks = omega (arith, c.in-Some.ensures.within, c.requires.all) in
    value_heard g k s value (compact_text (view c.in-Some-message_in_line.message.now)) (at talks) c.index-sessions-s.result c.hear_message.new.session (replies_of c.hear_message.result) (suits.no_tables s) (word_of 0 s) (suits.words s) within
    (sym c.in-Some.ensures.session) (ap (text_or_raw value) (sym c.in-Some-message_in_line.ensures.message)) c.hear_message.ensures

-- the session hears a text
pub returns-in-Some-text_at : goal.returns-in-Some-text_at
returns-in-Some-text_at c = λ g k suits.
    let value = view c.args.value.now in
    let talks = c.args.sessions.now in
    let s = c.in-Some.s in
    let within : s < length talks = omega (arith, c.in-Some.ensures.within, c.requires.all) in
    value_heard g k s value c.in-Some-text_at.text.now (at talks) c.index-sessions-s.result c.hear.new.self (replies_of c.hear.result) (suits.no_tables s) (word_of 0 s) (suits.words s) within
    (sym c.in-Some.ensures.session) (ap (text_or_raw value) (sym c.in_default-message_in_line.ensures.message) ∙ sym c.in-Some-text_at.ensures) c.hear.ensures

-- there is nothing to hear
pub returns-in-None : goal.returns-in-None
returns-in-None c = λ g k suits.
    let value = view c.args.value.now in
    let talks = c.args.sessions.now in
    let s = c.in-Some.s in
    let none = ap (text_or_raw value) (sym c.in_default-message_in_line.ensures.message) ∙ sym c.in-None.ensures in
    subst (Shows g (duties_of k (line_of_value (Some value))) (at talks) (entries_by k (Bad c.why_bad-in-None.result))) (ap at (sym (set-get_or talks s c.index-sessions-s.result)))
    (subst (λ why. Shows g (duties_of k (line_of_value (Some value))) (at talks) (entries_by k (Bad why)) (at talks)) (sym c.why_bad-in-None.ensures)
    (value_bad g k value (at talks) (line_of_value-no_text value s (sym c.in-Some.ensures.session) none)))
