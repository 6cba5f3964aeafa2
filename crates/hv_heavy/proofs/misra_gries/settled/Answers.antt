use Rattle.std.proofs.Common.{◌++◌, ℕ, List}
use Rattle.std.proofs.lemmas.Result.{IfOk-weaker}
use Rattle.hv_value.specs.declared.cell.Cell.{Cell}
use Rattle.hv_heavy.specs.Counting.{counted}
use Rattle.hv_heavy.specs.Heavy.{AreHeavy, IsNear}
use Rattle.hv_heavy.specs.declared.summary.HeavyPair.{HeavyPair}
use Rattle.hv_heavy.proofs.HeavyFacts.{near-permuted}
use Rattle.hv_heavy.proofs.misra_gries.settled.Goals as goal

-- the counts as rising pairs are near as they were
pub returns : goal.returns
returns c =
    let k = c.args.k in
    let done : List HeavyPair = c.args.done.now in
    let counts : List HeavyPair = counted c.args.counts in
    let pairs : List HeavyPair = c.in_ok-pairs.pairs.items in
    IfOk-weaker c.sum.result (λ made. (n : ℕ) (count : Cell → ℕ) → IsNear k n count (done ++ pairs) → AreHeavy k n count made)
    (λ made. (n : ℕ) (count : Cell → ℕ) → IsNear k n count (done ++ counts) → AreHeavy k n count made)
    (λ made heavy n count near. heavy n count (near-permuted k n count done counts pairs c.in_ok-pairs.ensures.same near))
    (rw c.as_slice.ensures.value at c.sum.ensures)
