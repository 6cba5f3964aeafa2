use Rattle.std.proofs.Common.{◌≡◌, ◌≤◌, ◌^◌, ◌∙◌, ap, sym, length, map, arith}
use Rattle.csv.specs.Records.{fields_of}
use Rattle.hv_value.proofs.RowsOfBytes.{few_records_of}
use Rattle.hv_value.specs.Rows.{records_of}
use Rattle.hv_csv.specs.Fill.{empty_column, place_in, with_rows}
use Rattle.hv_csv.specs.Left.{records_left}
use Rattle.hv_csv.proofs.Filling.{room-empty, with_rows-all, written-over}
use Rattle.hv_csv.proofs.part.read_part.Goals as goal

-- there are fewer records than bytes
pub push_rows-requires-clause-room : goal.push_rows-requires-clause-room
push_rows-requires-clause-room c =
    let next = rw c.if-not-branch.false at c.in_ok-read_next.ensures.next in
    let few = few_records_of c.args.bytes.now in
    let less : length (records_left c.read_next.new.reader) ≤ 2 ^ 26 =
    omega (arith, few, ap length c.reader_of-reader.ensures.records, ap length next, c.requires) in
    rw (c.deref_mut.ensures.value, c.in_ok-cols.ensures.cols) (room-empty (length (records_left c.read_next.new.reader)) c.args.schema.now less)

-- the records after the header are pushed into columns without cells
pub returns-clause-cols : goal.returns-clause-cols
returns-clause-cols c =
    let cols = c.in_ok-cols.cols.items in
    let new = c.push_rows.new.cols in
    let header = fields_of c.read_next.new.row in
    let left = records_left c.read_next.new.reader in
    let next = rw c.if-not-branch.false at c.in_ok-read_next.ensures.next in
    let same : length new ≡ length cols = c.push_rows.auto.cols ∙ ap length c.deref_mut.ensures.value in
    let size : c.in_ok-cols.cols.len ≡ length cols = sym c.deref_mut.ensures.len ∙ ap length c.deref_mut.ensures.value in
    let pushed : new ≡ with_rows (map (place_in header) c.args.schema.now) left (map empty_column c.args.schema.now) =
    rw (c.deref.ensures.value, c.in_ok-places.ensures, c.deref_mut.ensures.value, c.in_ok-cols.ensures.cols) at c.in_ok-push_rows.ensures in
    written-over c.in_ok-cols.cols.len new cols same size ∙ pushed
    ∙ with_rows-all c.args.schema.now header left (records_of c.args.bytes.now) (sym c.reader_of-reader.ensures.records ∙ next)
