use Rattle.std.proofs.Common.{◌≡◌, ◌-◌, ◌^◌, min, map, sum, take}
use Rattle.hv_asked.specs.Trees.{asked_nodes}
use Rattle.hv_asked.proofs.pred_asked.+nodes.Given as goal

abbrev pub invariant-nodes_of-loop-part : goal.invariant-nodes_of-loop-part
invariant-nodes_of-loop-part l = l.nodes ≡ min (sum (map asked_nodes (take l.part-index l.parts))) (2 ^ 64 - 1)
