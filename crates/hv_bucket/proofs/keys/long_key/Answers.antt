use Rattle.std.proofs.Common.{◌∙◌, ap, ◌+◌, ◌*◌, ◌/◌}
use Rattle.hv_bucket.proofs.Keyed.{long-key}
use Rattle.hv_bucket.proofs.keys.long_key.Goals as goal

pub returns : goal.returns
returns c = record {
  is = ap (λ n. n / 256 * 256 + 8) c.from_be_bytes-first.ensures ∙ long-key c.args.bytes.now (λ i. (c.type_inv.bytes i).fits) c.requires;
  bytes = λ i. (c.type_inv.bytes i).fits;
}
