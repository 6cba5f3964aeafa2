use Rattle.std.proofs.Common.{sym, ◌∙◌}
use Rattle.hv_value.specs.Cells.{cell_lent}
use Rattle.hv_bucket.specs.PlaceLaws.{place-below}
use Rattle.hv_bucket.proofs.buckets.Buckets.bucket_of.Goals as goal

pub returns-clause-within : goal.returns-clause-within
returns-clause-within c = λ bucket is. place-below c.args.self.now (cell_lent c.args.cell) bucket c.len-len.ensures.sound (sym c.place_of.ensures ∙ is)
