use Rattle.std.proofs.Common.{◌∙◌, ap, refl}
use Rattle.hv_csv.specs.Base.{row_count}
use Rattle.hv_csv.proofs.BaseRows.{base-holds, base-rows}
use Rattle.hv_csv.proofs.table.base_table.Goals as goal

-- the columns hold the table of the rows
pub invariant_of-result : goal.invariant_of-result
invariant_of-result c =
    base-holds c.args.schema.now c.args.part c.args.bytes.now c.in_ok-cols.cols.items c.count_rows-count.result
    c.in_ok-cols.ensures.schema c.requires c.in_ok-cols.ensures.cols (c.count_rows-count.ensures ∙ ap row_count c.deref.ensures.value)

-- which are those of the bytes
pub returns : goal.returns
returns c =
    let rows = base-rows c.args.schema.now c.args.part c.args.bytes.now c.in_ok-cols.cols.items c.count_rows-count.result
    c.in_ok-cols.ensures.schema c.in_ok-cols.ensures.cols (c.count_rows-count.ensures ∙ ap row_count c.deref.ensures.value) in
    rw rows refl
