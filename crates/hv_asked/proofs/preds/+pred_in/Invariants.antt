use Rattle.std.proofs.Common.{◌≡◌, ◌++◌, ◌+◌, ◌*◌, length, option_map}
use Rattle.serde_json.specs.View.{items_view}
use Rattle.hv_asked.specs.Fields.{all_read}
use Rattle.hv_asked.specs.Trees as tree
use Rattle.hv_asked.proofs.preds.+pred_in.Given as goal

abbrev pub decreases-pred_in : goal.decreases-pred_in
decreases-pred_in l = 4 * l.levels

abbrev pub decreases-pred_with : goal.decreases-pred_with
decreases-pred_with l = 4 * l.levels + 3

abbrev pub decreases-parts_in : goal.decreases-parts_in
decreases-parts_in l = 4 * l.levels + 2

abbrev pub decreases-all_of : goal.decreases-all_of
decreases-all_of l = 4 * l.levels + 1

abbrev pub decreases-operand_in : goal.decreases-operand_in
decreases-operand_in l = 4 * l.levels + 1

-- all are those found and then those of the rest
abbrev pub invariant-all_of-loop-rest : goal.invariant-all_of-loop-rest
invariant-all_of-loop-rest l =
    all_read (tree.pred_in l.levels) (items_view l.items) ≡ option_map (λ more. l.found ++ more) (all_read (tree.pred_in l.levels) (items_view l.rest))

abbrev pub decreases-all_of-loop-rest : goal.decreases-all_of-loop-rest
decreases-all_of-loop-rest l = length l.rest
