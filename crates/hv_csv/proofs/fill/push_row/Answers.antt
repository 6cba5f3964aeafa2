use Rattle.std.proofs.Common.{None, length, ap, arith}
use Rattle.csv.specs.Records.{fields_of}
use Rattle.hv_column.specs.Column.{ColumnCells}
use Rattle.hv_csv.proofs.Filling.{room-at, row-read, row-step}
use Rattle.hv_csv.proofs.fill.push_row.Goals as goal

-- the column is as it was, with room for a cell
pub push_field-requires : goal.push_field-requires
push_field-requires c =
    let cols = c.args.cols.now in
    let column = c.index-cols-j.result in
    let was = row-read c.args.places.now (fields_of c.args.row.now) cols c.loop-j.cols c.loop-j.j column c.requires.places c.loop-j-test.true c.loop-j.invariant in
    let room = room-at 1 cols c.loop-j.j column c.requires.room c.loop-j-test.true in
    omega (arith, room, ap (λ (col : ColumnCells). length col.cells) was)

-- one more column has its cell
pub loop-j-preserved : goal.loop-j-preserved
loop-j-preserved c =
    row-step c.args.places.now (fields_of c.args.row.now) c.args.cols.now c.loop-j.cols c.loop-j.j None c.index-cols-j.result c.push_field.new.column
    c.requires.places c.loop-j-test.true c.loop-j.invariant c.in_ok-push_field.ensures
