use Rattle.std.proofs.lemmas.Slice.Eq.{bytes_eq-Decides, slice_eq-Decides}
use Rattle.hv_bucket.proofs.texts.are_same_texts.Goals as goal

-- texts are told apart by their bytes
pub returns : goal.returns
returns c = slice_eq-Decides bytes_eq-Decides c.args.a.now c.args.b.now c.eq.result c.eq.ensures
