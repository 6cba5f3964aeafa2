use Rattle.csv.specs.Records.{fields_of}
use Rattle.hv_csv.specs.Left.{records_left}
use Rattle.hv_csv.proofs.Filling.{pushes-more, pushes-room}
use Rattle.hv_csv.proofs.fill.push_rows.Goals as goal

-- the record that was found has room
pub push_row-requires-clause-room : goal.push_row-requires-clause-room
push_row-requires-clause-room c =
    let next = rw c.if-branch.true at c.in_ok-read_next.ensures.next in
    pushes-room c.args.places.now (records_left c.args.reader.now) c.args.cols.now (fields_of c.read_next.new.row)
    (records_left c.loop-cols.reader) (records_left c.read_next.new.reader) c.loop-cols.cols c.loop-cols.invariant.0 next

-- and goes to the columns
pub loop-cols-preserved : goal.loop-cols-preserved
loop-cols-preserved c =
    let next = rw c.if-branch.true at c.in_ok-read_next.ensures.next in (
      pushes-more c.args.places.now (records_left c.args.reader.now) c.args.cols.now (fields_of c.read_next.new.row)
          (records_left c.loop-cols.reader) (records_left c.read_next.new.reader) c.loop-cols.cols c.push_row.new.cols
          c.loop-cols.invariant.0 next c.in_ok-push_row.ensures,
      c.in_ok-read_next.ensures.set_up c.if-branch.true,
    )
