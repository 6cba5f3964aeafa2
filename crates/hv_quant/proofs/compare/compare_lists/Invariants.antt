use Rattle.std.proofs.Common.{◌≡◌, drop}
use Rattle.hv_value.specs.Orders.{compare_keys}
use Rattle.hv_quant.proofs.compare.compare_lists.Given as goal

-- what is left of the keys and of both lists decides
abbrev pub invariant-loop-place : goal.invariant-loop-place
invariant-loop-place l = compare_keys (drop l.place l.keys) (drop l.place l.a) (drop l.place l.b) ≡ compare_keys l.keys l.a l.b
