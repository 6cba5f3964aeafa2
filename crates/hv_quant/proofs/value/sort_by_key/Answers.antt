use Rattle.std.proofs.Common.{rules}
use Rattle.std.specs.Ordering.{is_lt}
use Rattle.std.proofs.lemmas.Fn.{always_returns_same}
use Rattle.std.proofs.lemmas.List.Sorted.{ranks_by}
use Rattle.hv_quant.specs.Quantiles.{by_key}
use Rattle.hv_quant.specs.SampleOrder.{by_key_total}
use Rattle.hv_quant.specs.declared.summary.SampledRow.{SampledRow}
use Rattle.hv_quant.proofs.value.sort_by_key.Goals as goal

-- the closure compares two rows by their keys
pub returns-clause-sorted : goal.returns-clause-sorted
returns-clause-sorted c =
    let keys = c.args.order.now in
    c.sort_unstable_by.ensures.sorted (λ a b. is_lt (by_key keys a b)) (ranks_by (by_key_total keys) (λ (row : SampledRow). row))
    (always_returns_same _ _ _ (λ a r f called. (search rules, search rules)))
