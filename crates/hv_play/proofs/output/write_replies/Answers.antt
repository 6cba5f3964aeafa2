use Rattle.std.proofs.Common.{map, sym, subst}
use Rattle.hv_outer.specs.Turns.{AppendsFront}
use Rattle.hv_session.specs.Held.{replies_of}
use Rattle.hv_play.specs.Run.{out}
use Rattle.hv_play.specs.Texts.{entries_text}
use Rattle.hv_play.proofs.OutputLemmas.{first_cut, second_cut}
use Rattle.hv_play.proofs.StepLemmas.{on_err_any, on_err_then}
use Rattle.hv_play.proofs.output.write_replies.Goals as goal

-- the first reply was cut off
pub returns-in_err-write_reply-in-Two-clause-err : goal.returns-in_err-write_reply-in-Two-clause-err
returns-in_err-write_reply-in-Two-clause-err g c =
    let before = g.O.Sink.taken c.args.sink.now in
    let now = g.O.Sink.taken c.write_reply-in-Two.new.sink in
    on_err_any c.from_residual.result
    (subst (λ answer. AppendsFront before now (entries_text (map (out c.args.number c.args.s) (replies_of answer)))) (sym c.in-Two.is)
    (first_cut (out c.args.number c.args.s c.in-Two.reply) (out c.args.number c.args.s c.in-Two.later) before now c.in_err-write_reply-in-Two.ensures.err))

-- the second reply was
pub returns-in_ok-write_reply-in-Two-clause-err : goal.returns-in_ok-write_reply-in-Two-clause-err
returns-in_ok-write_reply-in-Two-clause-err g c =
    let before = g.O.Sink.taken c.args.sink.now in
    let mid = g.O.Sink.taken c.write_reply-in-Two.new.sink in
    let now = g.O.Sink.taken c.write_reply-in-Two-2.new.sink in
    on_err_then c.write_reply-in-Two-2.result (λ front.
    subst (λ answer. AppendsFront before now (entries_text (map (out c.args.number c.args.s) (replies_of answer)))) (sym c.in-Two.is)
    (second_cut (out c.args.number c.args.s c.in-Two.reply) (out c.args.number c.args.s c.in-Two.later) before mid now c.in_ok-write_reply-in-Two.ensures.ok front))
    c.write_reply-in-Two-2.ensures.err
