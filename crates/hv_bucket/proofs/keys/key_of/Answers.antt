use Rattle.std.proofs.Common.{sym}
use Rattle.std.proofs.lemmas.Bool.{eqb-true}
use Rattle.hv_bucket.proofs.Keyed.{no-key}
use Rattle.hv_bucket.proofs.keys.key_of.Goals as goal

pub returns-else-not-is_empty : goal.returns-else-not-is_empty
returns-else-not-is_empty c = record {
  is = no-key c.args.bytes.now (eqb-true _ _ (sym c.if-not-is_empty.ensures));
  bytes = λ i. (c.type_inv.bytes i).fits;
}
