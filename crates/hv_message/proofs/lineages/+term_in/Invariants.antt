use Rattle.std.proofs.Common.{◌+◌, ◌*◌}
use Rattle.hv_message.proofs.lineages.+term_in.Given as goal

abbrev pub decreases-term_in : goal.decreases-term_in
decreases-term_in l = 3 * l.levels

abbrev pub decreases-term_with : goal.decreases-term_with
decreases-term_with l = 3 * l.levels + 2

abbrev pub decreases-inner_in : goal.decreases-inner_in
decreases-inner_in l = 3 * l.levels + 1
