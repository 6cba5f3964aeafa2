use Rattle.std.proofs.Common.{◌+◌, ◌*◌, map, sum}
use Rattle.hv_asked.specs.Trees.{asked_nodes}
use Rattle.hv_asked.proofs.pred_asked.+over.Given as goal

abbrev pub decreases-PredAsked::over : goal.decreases-PredAsked::over
decreases-PredAsked::over l = 2 * asked_nodes l.self

abbrev pub decreases-all_over : goal.decreases-all_over
decreases-all_over l = 2 * sum (map asked_nodes l.parts) + 1
