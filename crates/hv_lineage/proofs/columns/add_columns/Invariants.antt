use Rattle.std.proofs.Common.{◌≡◌, ◌++◌, take}
use Rattle.hv_lineage.proofs.columns.add_columns.Given as goal

abbrev pub invariant-loop-j : goal.invariant-loop-j
invariant-loop-j l = l.columns.items ≡ l.fn.columns.items ++ take l.j l.schema
