use Rattle.std.proofs.Common.{◌≡◌, ◌-◌, ◌^◌, min, map, sum, take}
use Rattle.hv_expr.specs.Sizes.{pred_nodes}
use Rattle.hv_expr.proofs.pred.+pred_nodes.Given as goal

abbrev pub invariant-nodes_of-loop-part : goal.invariant-nodes_of-loop-part
invariant-nodes_of-loop-part l = l.nodes ≡ min (sum (map pred_nodes (take l.part-index l.parts))) (2 ^ 64 - 1)
