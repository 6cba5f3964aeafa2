use Rattle.std.proofs.Common.{◌≡◌, fold, flat_map, take}
use Rattle.hv_expr.specs.Hashes.{pred_writes}
use Rattle.hv_expr.proofs.same.+hash.Given as goal

abbrev pub invariant-hash_parts-loop-part : goal.invariant-hash_parts-loop-part
invariant-hash_parts-loop-part g l = l.state ≡ fold g.H.Hasher.write l.fn.state (flat_map pred_writes (take l.part-index l.parts))
