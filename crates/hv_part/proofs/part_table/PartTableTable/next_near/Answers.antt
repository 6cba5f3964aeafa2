use Rattle.std.proofs.Common.{◌∙◌, map}
use Rattle.std.specs.Arc.{arc_value}
use Rattle.hv_part.proofs.RowsThere.{next-rows_of}
use Rattle.hv_part.proofs.part_table.PartTableTable.next_near.Goals as goal

-- the first number that is there is that of the first row
pub returns : goal.returns
returns c =
    let kept = c.self.inside in
    rw (← c.self.view_is)
    (c.next_near.ensures
    ∙ next-rows_of (record { columns = kept.schema; part = kept.part; cols = map arc_value kept.cols.items; member = kept.member }) c.args.from)
