use Rattle.std.proofs.Common.{◌≡◌, ◌++◌}
use Rattle.hv_value.specs.declared.cell.Cell.TheVariants as cell
use Rattle.hv_heavy.specs.Counting.{pairs_of}
use Rattle.hv_heavy.proofs.counts.push_ints.Given as goal

-- the entries so far have been added
abbrev pub invariant-loop-n : goal.invariant-loop-n
invariant-loop-n l = l.pairs.items ++ pairs_of cell.Int l.n-iterator ≡ l.fn.pairs.items ++ pairs_of cell.Int l.fn.counts.entries
