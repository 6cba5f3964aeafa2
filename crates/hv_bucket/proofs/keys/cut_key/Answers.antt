use Rattle.hv_bucket.proofs.Keyed.{cut-fits}
use Rattle.hv_bucket.proofs.keys.cut_key.Goals as goal

pub overflow_add-result : goal.overflow_add-result
overflow_add-result c = record { fits = cut-fits c.from_be_bytes.result c.args.len c.from_be_bytes.type_inv c.requires.some c.requires.few }
