use Rattle.std.proofs.Common.{◌≡◌, Some, ap, arith, slice_get, sym}
use Rattle.std.specs.Arc.{arc_value}
use Rattle.hv_value.specs.Cells.{cell_lent}
use Rattle.hv_part.specs.Part.{HoldPart, PartRows}
use Rattle.hv_part.proofs.RowsThere.{cell-there, column-at, long-at, there-below}
use Rattle.hv_part.proofs.part_table.PartTableTable.cell.Goals as goal

-- the column has a cell for each row
pub cell-requires : goal.cell-requires
cell-requires c =
    let hold : HoldPart c.args.self.now = rw (← c.self.view_is) c.self.invariant in
    let column : slice_get c.args.self.now.cols c.args.col ≡ Some c.deref.result.now =
    rw c.deref.ensures
    (column-at arc_value c.self.inside.cols.items c.args.self.now c.args.col c.index.result.now hold
    (ap (λ (t : PartRows). t.cols) (sym c.self.view_is)) c.requires.col_there c.index.ensures) in
    let long = long-at c.args.self.now.member.size c.args.self.now.cols c.args.col c.deref.result.now hold.agree.lengths column in
    omega (arith, long, there-below c.args.self.now c.args.row hold c.requires.row_there)

-- and the row's cell is the column's
pub returns : goal.returns
returns c = λ found there.
    let hold : HoldPart c.args.self.now = rw (← c.self.view_is) c.self.invariant in
    let column : slice_get c.args.self.now.cols c.args.col ≡ Some c.deref.result.now =
    rw c.deref.ensures
    (column-at arc_value c.self.inside.cols.items c.args.self.now c.args.col c.index.result.now hold
    (ap (λ (t : PartRows). t.cols) (sym c.self.view_is)) c.requires.col_there c.index.ensures) in
    cell-there c.args.self.now c.args.row c.args.col c.deref.result.now (cell_lent c.cell.result) found
    hold c.requires.row_there column c.cell.ensures there
