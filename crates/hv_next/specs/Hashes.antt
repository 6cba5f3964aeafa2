-- What the hashes of keys and of views of next rows write: functions of the value, so that the same ones write the same.
use Rattle.std.specs.Prelude.{◌++◌, List, Option}
use Rattle.std.specs.Hash as fed
use Rattle.hv_value.specs.declared.cell.Cell.{Cell}
use Rattle.hv_value.specs.Hashes.{cell_writes, order_writes}
use Rattle.hv_next.specs.declared.next_rows.NextRows.{NextRows}

-- of the key above which rows are whether it is there, and its cells
abbrev pub after_writes : Option (List Cell) → fed.HashWrites
after_writes after = fed.option (fed.slice cell_writes) after

-- of a view its order, the key above which the rows are, and how many keys are kept
abbrev pub next_writes : NextRows → fed.HashWrites
next_writes view = order_writes view.order ++ after_writes view.after ++ fed.u32 view.k
