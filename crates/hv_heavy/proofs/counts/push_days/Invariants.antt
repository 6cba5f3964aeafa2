use Rattle.std.proofs.Common.{◌≡◌, ◌++◌}
use Rattle.hv_value.specs.declared.cell.Cell.TheVariants as cell
use Rattle.hv_heavy.specs.Counting.{pairs_of}
use Rattle.hv_heavy.proofs.counts.push_days.Given as goal

-- the entries so far have been added
abbrev pub invariant-loop-day : goal.invariant-loop-day
invariant-loop-day l = l.pairs.items ++ pairs_of cell.Date l.day-iterator ≡ l.fn.pairs.items ++ pairs_of cell.Date l.fn.counts.entries
