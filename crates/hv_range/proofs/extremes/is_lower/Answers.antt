use Rattle.std.proofs.Common.{sym}
use Rattle.hv_range.specs.CellLaws.{missing_last-never}
use Rattle.hv_range.proofs.extremes.is_lower.Goals as goal

pub returns-in-Missing-default : goal.returns-in-Missing-default
returns-in-Missing-default c = rw c.in-Missing-default.is-0 (sym (missing_last-never _))
