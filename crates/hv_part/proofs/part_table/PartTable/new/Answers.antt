use Rattle.std.proofs.Common.{map}
use Rattle.std.specs.Arc.{arc_value}
use Rattle.hv_part.proofs.RowsThere.{new-holds}
use Rattle.hv_part.proofs.part_table.PartTable.new.Goals as goal

-- the columns hold a table
pub invariant_of-result : goal.invariant_of-result
invariant_of-result c =
    new-holds (record { columns = c.args.schema; part = c.args.part; cols = map arc_value c.args.cols.items; member = c.args.member })
    c.len.ensures.schema c.requires (rw c.deref.ensures.value at c.look_at.ensures) c.count.ensures.set
