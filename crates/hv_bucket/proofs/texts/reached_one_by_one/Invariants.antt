use Rattle.std.proofs.Common.{◌≡◌, take}
use Rattle.std.specs.List.{count_by}
use Rattle.hv_bucket.specs.Buckets.{is_reached}
use Rattle.hv_bucket.proofs.texts.reached_one_by_one.Given as goal

abbrev pub invariant-loop-i : goal.invariant-loop-i
invariant-loop-i l = l.reached ≡ count_by (is_reached l.text) (take l.i l.bounds)
