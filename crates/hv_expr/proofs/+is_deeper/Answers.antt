use Rattle.std.proofs.Common.{◌<◌, ◌≤◌, sym, arith}
use Rattle.std.proofs.lemmas.Bool.{lt-ltb}
use borrow.Author.Tests.{ltb-true, ltb-false}
use Rattle.hv_expr.specs.Sizes.{pred_depth}
use Rattle.hv_expr.proofs.DepthLemmas.{greatest-at, greatest-more}
use Rattle.hv_expr.proofs.+is_deeper.Goals as goal

pub check_pred::is_any_deeper-returns-then-is_deeper : goal.check_pred::is_any_deeper-returns-then-is_deeper
check_pred::is_any_deeper-returns-then-is_deeper t c =
    let deeper : c.args.limit < pred_depth c.part-item.result = ltb-true c.args.limit (pred_depth c.part-item.result) (rw c.is_deeper.ensures at c.if-is_deeper.true) in
    let most = greatest-at pred_depth c.args.parts.now c.loop-part.part-index c.part-item.result c.loop-part-test.true c.part-item.is in
    sym (lt-ltb c.args.limit _ (omega arith))

pub check_pred::is_any_deeper-loop-part-preserved : goal.check_pred::is_any_deeper-loop-part-preserved
check_pred::is_any_deeper-loop-part-preserved t c =
    let within : pred_depth c.part-item.result ≤ c.args.limit = ltb-false c.args.limit (pred_depth c.part-item.result) (rw c.is_deeper.ensures at c.if-is_deeper.false) in
    let more = greatest-more pred_depth c.args.parts.now c.loop-part.part-index c.part-item.result c.loop-part-test.true c.part-item.is in
    omega (arith, c.loop-part.invariant)
