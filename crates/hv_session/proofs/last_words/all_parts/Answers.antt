use Rattle.std.proofs.Common.{◌∙◌, ap}
use Rattle.hv_member.specs.PartSet.{Parts}
use Rattle.hv_member.specs.Sets.{inserted}
use Rattle.hv_session.proofs.PartLemmas.{inserted-numbers}
use Rattle.hv_session.proofs.last_words.all_parts.Goals as goal

pub loop-part-preserved : goal.loop-part-preserved
loop-part-preserved c =
    c.insert.ensures ∙ ap (λ (kept : Parts). record kept { parts = inserted c.loop-part.part kept.parts }) c.loop-part.invariant
    ∙ ap (λ parts. record { size = c.args.size; parts = parts }) (inserted-numbers c.loop-part.part)
