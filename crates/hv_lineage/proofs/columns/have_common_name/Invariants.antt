use Rattle.std.proofs.Common.{◌≡◌, false, take}
use Rattle.hv_lineage.specs.Refusals.{have_common}
use Rattle.hv_lineage.proofs.columns.have_common_name.Given as goal

abbrev pub invariant-loop-j : goal.invariant-loop-j
invariant-loop-j l = have_common l.left (take l.j l.right) ≡ false
