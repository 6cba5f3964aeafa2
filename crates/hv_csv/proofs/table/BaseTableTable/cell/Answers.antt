use Rattle.std.proofs.Common.{◌<◌, ap, length, arith}
use Rattle.hv_value.specs.Cells.{cell_lent}
use Rattle.hv_csv.specs.Base.{TableRows}
use Rattle.hv_csv.proofs.BaseRows.{cell-there, long-at, there-below}
use Rattle.hv_csv.proofs.table.BaseTableTable.cell.Goals as goal

-- the column has a cell for each row
pub cell-requires : goal.cell-requires
cell-requires c =
    let cols = c.self.inside.cols.items in
    let count = c.self.inside.count in
    let below = there-below c.self.inside.part cols count c.args.row (rw (← c.self.view_is) at c.requires.row_there) in
    let within : c.args.col < length cols =
    omega (arith, c.requires.col_there, c.self.invariant.wide, ap (λ (table : TableRows). length table.columns) c.self.view_is) in
    omega (arith, below, long-at count cols c.args.col c.index.result.now c.self.invariant.long within, ap (λ column. length column.cells) c.index.ensures)

-- and the row's cell is the column's
pub returns : goal.returns
returns c = λ found there.
    let cols = c.self.inside.cols.items in
    let count = c.self.inside.count in
    let below = there-below c.self.inside.part cols count c.args.row (rw (← c.self.view_is) at c.requires.row_there) in
    let within : c.args.col < length cols =
    omega (arith, c.requires.col_there, c.self.invariant.wide, ap (λ (table : TableRows). length table.columns) c.self.view_is) in
    cell-there c.self.inside.part cols count c.args.row c.args.col c.index.result.now (cell_lent c.cell.result) found
    below within c.index.ensures c.cell.ensures (rw (← c.self.view_is) at there)
