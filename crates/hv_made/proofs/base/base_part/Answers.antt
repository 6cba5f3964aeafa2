use Rattle.std.proofs.Common.{◌≡◌, ◌∙◌, refl}
use Rattle.hv_value.specs.Rows.{records_of}
use Rattle.hv_made.proofs.BaseSteps.{agree-records, first-long, row_count, rows-bytes}
use Rattle.hv_made.proofs.base.base_part.Goals as goal

-- the columns that were read agree with the schema
pub new-requires : goal.new-requires
new-requires c =
    let schema = c.args.schema.now in
    let records = records_of c.args.bytes.now in
    let read = c.in_ok-cols.ensures in
    let height : c.len-height.result ≡ row_count records =
    c.len-height.ensures.value ∙ first-long schema records c.index.result.now read.schema (rw read.cols at c.index.ensures) in
    rw (c.in_ok-schema.ensures, c.in_ok-cols-2.ensures, read.cols, c.full.ensures, height) (agree-records schema records)

-- and hold its rows
pub returns : goal.returns
returns c =
    let schema = c.args.schema.now in
    let records = records_of c.args.bytes.now in
    let read = c.in_ok-cols.ensures in
    let height : c.len-height.result ≡ row_count records =
    c.len-height.ensures.value ∙ first-long schema records c.index.result.now read.schema (rw read.cols at c.index.ensures) in
    rw (c.new.ensures, c.in_ok-schema.ensures, c.in_ok-cols-2.ensures, read.cols, c.full.ensures, height) (record {
      columns_are = refl;
      part_is = refl;
      rows_are = rows-bytes schema c.args.part c.args.bytes.now;
    })
