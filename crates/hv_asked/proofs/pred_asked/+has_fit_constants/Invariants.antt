use Rattle.std.proofs.Common.{◌≡◌, true, take}
use Rattle.std.specs.List.{list_all}
use Rattle.hv_asked.specs.Trees.{has_fit_constants}
use Rattle.hv_asked.proofs.pred_asked.+has_fit_constants.Given as goal

abbrev pub invariant-have_fit_constants-loop-part : goal.invariant-have_fit_constants-loop-part
invariant-have_fit_constants-loop-part l = list_all has_fit_constants (take l.part-index l.parts) ≡ true
