use Rattle.std.proofs.Common.{◌∙◌}
use Rattle.hv_bucket.proofs.Keyed.{middle-key}
use Rattle.hv_bucket.proofs.keys.middle_key.Goals as goal

pub returns : goal.returns
returns c = record {
  is = (rw (c.min.ensures, c.min-2.ensures) at c.cut_key.ensures) ∙ middle-key c.args.bytes.now (λ i. (c.type_inv.bytes i).fits) c.requires.some c.requires.few;
  bytes = λ i. (c.type_inv.bytes i).fits;
}
