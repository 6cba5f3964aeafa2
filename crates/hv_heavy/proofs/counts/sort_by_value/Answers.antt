use Rattle.std.proofs.Common.{rules}
use Rattle.std.specs.Ordering.{is_lt}
use Rattle.std.proofs.lemmas.Fn.{always_returns_same}
use Rattle.std.proofs.lemmas.List.Sorted.{ranks_by}
use Rattle.hv_heavy.specs.Heavy.{by_value}
use Rattle.hv_heavy.specs.PairOrder.{pairs_total}
use Rattle.hv_heavy.specs.declared.summary.HeavyPair.{HeavyPair}
use Rattle.hv_heavy.proofs.counts.sort_by_value.Goals as goal

-- the closure compares two pairs by their values
pub returns-clause-sorted : goal.returns-clause-sorted
returns-clause-sorted c =
    c.sort_unstable_by.ensures.sorted (λ a b. is_lt (by_value a b)) (ranks_by pairs_total (λ (pair : HeavyPair). pair))
    (always_returns_same _ _ _ (λ a r f called. (search rules, search rules)))
