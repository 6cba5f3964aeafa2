use Rattle.std.proofs.Common.{◌∙◌, sym, subst, inr}
use Rattle.hv_play.specs.Run.{whole, early, Setting, Suits}
use Rattle.hv_play.specs.Steps.{Wrote}
use Rattle.hv_play.proofs.PlayLemmas.{traced, when_done, when_failed, when_short}
use Rattle.hv_play.proofs.top.play.Goals as goal

-- the script was read and played
pub returns-in-Ok-clause-done : goal.returns-in-Ok-clause-done
returns-in-Ok-clause-done g c = λ status.
    traced whole c.in-Ok.bytes.items _ _ _ _ c.in-Ok.ensures.ok c.in-Ok.ensures.ended c.in-Ok.ensures.short
    (subst (λ bytes. (setting : Setting) → Suits setting 16 → Wrote setting whole bytes (g.O.Sink.taken c.args.out.now) (g.O.Sink.taken c.run.new.out)) c.as_slice.ensures.value
    (when_done c.run.result (sym c.status_of.ensures ∙ status) c.run.ensures.done))

-- the output failed
pub returns-in-Ok-clause-cut : goal.returns-in-Ok-clause-cut
returns-in-Ok-clause-cut g c = λ status.
    traced early c.in-Ok.bytes.items _ _ _ _ c.in-Ok.ensures.ok c.in-Ok.ensures.ended c.in-Ok.ensures.short
    (subst (λ bytes. (setting : Setting) → Suits setting 16 → Wrote setting early bytes (g.O.Sink.taken c.args.out.now) (g.O.Sink.taken c.run.new.out)) c.as_slice.ensures.value
    (when_failed c.run.result (sym c.status_of.ensures ∙ status) c.run.ensures.cut))

-- memory was refused
pub returns-in-Ok-clause-memory : goal.returns-in-Ok-clause-memory
returns-in-Ok-clause-memory g c = λ status. inr (
    traced early c.in-Ok.bytes.items _ _ _ _ c.in-Ok.ensures.ok c.in-Ok.ensures.ended c.in-Ok.ensures.short
    (subst (λ bytes. (setting : Setting) → Suits setting 16 → Wrote setting early bytes (g.O.Sink.taken c.args.out.now) (g.O.Sink.taken c.run.new.out)) c.as_slice.ensures.value
    (when_short c.run.result (sym c.status_of.ensures ∙ status) c.run.ensures.cut)))
