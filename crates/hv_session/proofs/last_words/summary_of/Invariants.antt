use Rattle.hv_lineage.specs.Flat.{Told}
use Rattle.hv_session.proofs.PartLemmas.{RowsBelow}
use Rattle.hv_session.proofs.last_words.summary_of.Given as goal

-- the summary stands for the partitions so far
abbrev pub invariant-loop-part : goal.invariant-loop-part
invariant-loop-part g l = (told : Told) → RowsBelow told l.fn.lineage l.part (λ rows. g.V.Vizketch.stands l.fn.view rows l.summary)
