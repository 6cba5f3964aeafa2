use Rattle.std.proofs.Common.{◌≡◌, fold, flat_map, take}
use Rattle.std.specs.Hash as fed
use Rattle.hv_lineage.proofs.same.hash_names.Given as goal

abbrev pub invariant-loop-name : goal.invariant-loop-name
invariant-loop-name g l = l.state ≡ fold g.H.Hasher.write l.fn.state (flat_map fed.str (take l.name-index l.names))
