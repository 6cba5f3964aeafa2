use Rattle.std.proofs.Common.{◌≡◌, ◌++◌}
use Rattle.std.specs.Prelude.{map}
use Rattle.std.specs.Vec.Iter.{into_iter_items}
use Rattle.hv_quant.proofs.value.as_vecs.Given as goal

-- the lists so far are there, and the others follow
abbrev pub invariant-loop-list : goal.invariant-loop-list
invariant-loop-list l = map (λ key. key.items) l.keys.items ++ into_iter_items l.list-iterator ≡ l.fn.lists.items
