use Rattle.std.proofs.Common.{◌≡◌, take}
use Rattle.std.specs.Prelude.{nat_le}
use Rattle.std.specs.List.{count_by}
use Rattle.hv_bucket.proofs.texts.reached_keys.Given as goal

abbrev pub invariant-loop-bound : goal.invariant-loop-bound
invariant-loop-bound l = l.reached ≡ count_by (λ bound. nat_le bound l.key) (take l.bound-index l.keys)
