use Rattle.std.proofs.Common.{◌++◌, ℕ, List}
use Rattle.std.proofs.lemmas.Result.{IfOk-weaker}
use Rattle.hv_value.specs.declared.cell.Cell.{Cell}
use Rattle.hv_heavy.specs.Heavy.{AreHeavy, IsNear}
use Rattle.hv_heavy.specs.declared.summary.HeavyPair.{HeavyPair}
use Rattle.hv_heavy.proofs.PairJoins.{joined-rises, near-taken}
use Rattle.hv_heavy.proofs.pruning.sum.Goals as goal

pub pruned-requires : goal.pruned-requires
pruned-requires c = joined-rises _ c.args.a.now c.args.b.now _ c.requires.right c.in_ok-both.ensures

pub returns : goal.returns
returns c =
    let k = c.args.k in
    let a : List HeavyPair = c.args.a.now in
    let b : List HeavyPair = c.args.b.now in
    let both : List HeavyPair = c.in_ok-both.both.items in
    IfOk-weaker c.pruned.result (λ pairs. (n : ℕ) (count : Cell → ℕ) → IsNear k n count both → AreHeavy k n count pairs)
    (λ pairs. (n : ℕ) (count : Cell → ℕ) → IsNear k n count (a ++ b) → AreHeavy k n count pairs)
    (λ pairs made n count near. made n count (near-taken k n count a b both c.in_ok-both.ensures near))
    c.pruned.ensures
