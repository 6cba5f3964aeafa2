use Rattle.std.proofs.Common.{◌∙◌}
use Rattle.hv_bucket.proofs.Keyed.{short-key}
use Rattle.hv_bucket.proofs.keys.short_key.Goals as goal

pub returns : goal.returns
returns c = record {
  is = c.cut_key.ensures ∙ short-key c.args.bytes.now (λ i. (c.type_inv.bytes i).fits) c.requires.some c.requires.few;
  bytes = λ i. (c.type_inv.bytes i).fits;
}
