use Rattle.std.proofs.Common.{◌+◌, length, ap}
use Rattle.hv_sketch.specs.TallyLaws.{empty_is}
use Rattle.hv_heavy.proofs.count_of.CountOfVizketch.zero.Goals as goal

pub returns : goal.returns
returns c = empty_is _ _ c.zeros.result _ (ap (λ l. length l + 2) c.as_slice.ensures) c.zeros.ensures
