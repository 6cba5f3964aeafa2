use Rattle.hv_outer.proofs.CauseLemmas.{on_err_any}
use Rattle.hv_outer.proofs.TurnLemmas.{reading_some}
use Rattle.hv_outer.proofs.turns.read_all.Goals as goal

-- the bytes of the turn were read, though there was no room to keep them
pub returns-in_err-extend_from_slice-clause-err : goal.returns-in_err-extend_from_slice-clause-err
returns-in_err-extend_from_slice-clause-err g c =
    on_err_any _ (reading_some _ _ _ _ _ _ _ c.loop-turn.invariant c.in_ok-count.ensures.bytes.0)
