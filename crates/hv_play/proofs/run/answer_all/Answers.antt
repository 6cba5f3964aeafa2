use Rattle.std.proofs.Common.{◌<◌, ap, length, sym, subst, arith}
use Rattle.std.proofs.lemmas.List.{get_or_default, set-get_or}
use Rattle.hv_session.specs.Talk.{new_talk}
use Rattle.hv_session.specs.Held.{AnswersFirst}
use Rattle.hv_play.specs.Steps.{at}
use Rattle.hv_play.proofs.StepLemmas.{tick_begins, tick_ends, done_more, cut_more, answer_done, answer_cut, others_stay, on_err_any}
use Rattle.hv_play.proofs.run.answer_all.Goals as goal

pub loop-reply-init : goal.loop-reply-init
loop-reply-init g c =
    record {
      done = λ setting. tick_begins setting c.args.number c.args.s (at c.args.sessions.now) (g.O.Sink.taken c.args.out.now);
      others = ap at (sym (set-get_or c.args.sessions.now c.args.s new_talk));
      later = omega arith;
    }

-- one request more is answered
pub loop-reply-preserved : goal.loop-reply-preserved
loop-reply-preserved g c =
    let talks = c.loop-reply.sessions in
    let next = c.answer_first.new.self in
    let within : c.args.s < length talks = omega (arith, c.loop-reply.auto.sessions, c.requires.within, c.requires.all) in
    let answered = subst (λ talk. AnswersFirst talk c.in-Some.reply next) (get_or_default talks c.args.s c.index-sessions-s.result new_talk within) c.in-Some.ensures.some in
    record {
      done = λ setting.
          done_more setting _ _ _ (at c.args.sessions.now) (at talks) _ (g.O.Sink.taken c.args.out.now) (g.O.Sink.taken c.loop-reply.out) (g.O.Sink.taken c.write_reply.new.sink)
          (c.loop-reply.invariant.done setting)
          (answer_done setting c.args.number c.args.s (at talks) next c.in-Some.reply (g.O.Sink.taken c.loop-reply.out) (g.O.Sink.taken c.write_reply.new.sink)
          within answered c.in_ok-write_reply.ensures.ok);
      others = others_stay c.args.s (at c.args.sessions.now) (at talks) next within c.loop-reply.invariant.others;
      later = omega (arith, c.loop-reply.invariant.later, c.in_ok-write_reply.ensures.cause.later);
    }

-- a front of the answer was written
pub returns-in_err-write_reply-clause-err : goal.returns-in_err-write_reply-clause-err
returns-in_err-write_reply-clause-err g c =
    let talks = c.loop-reply.sessions in
    let next = c.answer_first.new.self in
    let within : c.args.s < length talks = omega (arith, c.loop-reply.auto.sessions, c.requires.within, c.requires.all) in
    let answered = subst (λ talk. AnswersFirst talk c.in-Some.reply next) (get_or_default talks c.args.s c.index-sessions-s.result new_talk within) c.in-Some.ensures.some in
    on_err_any c.from_residual.result (λ setting.
    cut_more setting _ _ (at c.args.sessions.now) (at talks) (g.O.Sink.taken c.args.out.now) (g.O.Sink.taken c.loop-reply.out) (g.O.Sink.taken c.write_reply.new.sink)
    (c.loop-reply.invariant.done setting)
    (answer_cut setting c.args.number c.args.s (at talks) next c.in-Some.reply (g.O.Sink.taken c.loop-reply.out) (g.O.Sink.taken c.write_reply.new.sink) answered c.in_err-write_reply.ensures.err))

-- no request is left
pub returns-clause-ok : goal.returns-clause-ok
returns-clause-ok g c = λ setting.
    let within : c.args.s < length c.loop-reply.sessions = omega (arith, c.loop-reply.auto.sessions, c.requires.within, c.requires.all) in
    tick_ends setting c.args.number c.args.s (at c.args.sessions.now) (at c.loop-reply.sessions) c.index-sessions-s.result c.answer_first.new.self _ _ within
    c.in_default.ensures.none.0 c.in_default.ensures.none.1 (c.loop-reply.invariant.done setting)
