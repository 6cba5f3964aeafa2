use Rattle.std.proofs.Common.{sym, ◌∙◌}
use Rattle.rand_pcg.proofs.LcgLemmas.{advance_zero}
use Rattle.hv_pick.proofs.walker.Walker.new.Goals as goal

-- before any row the generator has made no step
pub invariant_of-result : goal.invariant_of-result
invariant_of-result c = c.generator_of.ensures ∙ sym (advance_zero _ _ _)
