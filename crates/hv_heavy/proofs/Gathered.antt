-- What is kept, as a cut finds it behind its references.
use Rattle.std.proofs.Common.{◌≡◌, ◌<◌, ◌+◌, ◌^◌, ℕ, List, [], subst, sym, ap, arith}
use Rattle.hv_value.specs.declared.cell.Cell.{Cell}
use Rattle.hv_sketch.specs.Rising.{IsRising}
use Rattle.hv_heavy.specs.Counting.{IsGathered, counted}
use Rattle.hv_heavy.specs.Heavy.{by_value, total}
use Rattle.hv_heavy.specs.declared.counts.ValueCounts.{ValueCounts}
use Rattle.hv_heavy.specs.declared.misra_gries.Gathering.{Gathering}
use Rattle.hv_heavy.specs.declared.summary.HeavyPair.{HeavyPair}
use Rattle.hv_heavy.proofs.HeavyFacts.{AreSum, gathered-cut, gathered-fits}

module _ (k : ℕ) (cells : List Cell) (kept : Gathering) (h : IsGathered k cells kept) (done : List HeavyPair) (counts : ValueCounts)
    (done_is : done ≡ kept.done) (counts_is : counts ≡ kept.counts) where
  pub found-rises : IsRising by_value done
  found-rises = subst (λ l. IsRising by_value l) (sym done_is) h.rises

  pub found-fits : total done + total (counted counts) < 2 ^ 64
  found-fits = omega (arith, gathered-fits k cells kept h, ap total done_is, ap (λ m. total (counted m)) counts_is)

  pub found-cut : (pairs : List HeavyPair) (none fresh : ValueCounts) → none ≡ fresh → counted fresh ≡ [] → AreSum k done (counted counts) pairs
      → IsGathered k cells (record { missing = kept.missing; n = kept.n; done = pairs; counts = none })
  found-cut pairs none fresh same empty made =
      gathered-cut k cells kept h pairs none (subst (λ m. counted m ≡ []) (sym same) empty)
      (subst (λ m. AreSum k kept.done (counted m) pairs) counts_is (subst (λ l. AreSum k l (counted counts) pairs) done_is made))
