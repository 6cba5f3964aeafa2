use Rattle.std.proofs.Common.{length}
use Rattle.hv_view.proofs.frequent.+add_paired.Given as goal

abbrev pub decreases-add_paired : goal.decreases-add_paired
decreases-add_paired l = length l.found.now
