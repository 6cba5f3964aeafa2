use Rattle.std.proofs.Common.{sym}
use Rattle.hv_range.specs.CellLaws.{missing-never}
use Rattle.hv_range.proofs.extremes.is_higher.Goals as goal

pub returns-in-Missing : goal.returns-in-Missing
returns-in-Missing c = rw c.in-Missing.is (sym (missing-never _))
