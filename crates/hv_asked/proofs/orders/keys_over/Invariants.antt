use Rattle.std.proofs.Common.{◌≡◌, ◌++◌, ◌+◌, length}
use Rattle.hv_value.specs.Orders.{AreInColumns}
use Rattle.hv_asked.specs.Flaws.{all_meant, map_ok}
use Rattle.hv_asked.specs.Orders.{key_named}
use Rattle.hv_asked.proofs.orders.keys_over.Given as goal

-- all are those found and then those of the rest, as many as are asked for, each in its column
abbrev pub invariant-loop-rest : goal.invariant-loop-rest
invariant-loop-rest l =
    (all_meant (key_named l.schema) l.asked ≡ map_ok (λ more. l.keys ++ more) (all_meant (key_named l.schema) l.rest))
    × (length l.keys + length l.rest ≡ length l.asked) × AreInColumns l.schema l.keys

abbrev pub decreases-loop-rest : goal.decreases-loop-rest
decreases-loop-rest l = length l.rest
