use Rattle.std.proofs.Common.{◌≡◌, ◌≤◌, ◌+◌, ◌*◌, ℕ, List}
use Rattle.std.specs.Prelude.{count_by, nat_lt}
use Rattle.std.proofs.lemmas.Result.{IfOk-weaker}
use Rattle.hv_value.specs.declared.cell.Cell.{Cell}
use Rattle.hv_heavy.specs.Heavy.{AreHeavy, IsNear}
use Rattle.hv_heavy.specs.Pairs.{lowered, taken}
use Rattle.hv_heavy.specs.declared.summary.HeavyPair.{HeavyPair}
use Rattle.hv_heavy.proofs.Lowering.{heavy-lowered}
use Rattle.hv_heavy.proofs.pruning.pruned.Goals as goal

pub returns : goal.returns
returns c =
    let k = c.args.k in
    let less = c.in_ok-less.less in
    let pairs : List HeavyPair = c.args.pairs.items in
    let enough : (k + 1) * less ≤ taken less pairs = rw c.as_slice.ensures.value at c.in_ok-less.ensures.enough in
    let few : count_by (λ (pair : HeavyPair). nat_lt less pair.estimate) pairs ≤ k = rw c.as_slice.ensures.value at c.in_ok-less.ensures.few in
    IfOk-weaker c.lowered.result (λ kept. kept ≡ lowered less pairs)
    (λ kept. (n : ℕ) (count : Cell → ℕ) → IsNear k n count pairs → AreHeavy k n count kept)
    (λ kept is n count near. rw is (heavy-lowered k n less count pairs c.requires near enough few))
    c.lowered.ensures
