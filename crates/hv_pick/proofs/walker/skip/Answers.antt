use Rattle.std.proofs.Common.{◌≡◌, arith, sym}
use Rattle.rand_pcg.specs.Pcg.{multiplier_64}
use Rattle.rand_pcg.proofs.LcgLemmas.{advance_zero}
use Rattle.hv_pick.proofs.walker.skip.Goals as goal

-- no steps leave the generator as it is
pub returns-else-steps-gt0 : goal.returns-else-steps-gt0
returns-else-steps-gt0 c =
    let none : c.args.steps ≡ 0 = omega arith in
    rw none (sym (advance_zero 64 multiplier_64 c.args.generator.now))
