use Rattle.std.proofs.Common.{◌≡◌, false, sym, true}
use Rattle.std.proofs.lemmas.Option.{get_or_from_slice_get}
use Rattle.hv_value.specs.declared.cell.Cell.TheVariants as cell
use Rattle.hv_value.specs.Cells.{cell_at, cell_lent}
use Rattle.hv_made.proofs.UnionSteps.{chosen-is_of_kind}
use Rattle.hv_made.proofs.union.chosen.Goals as goal

-- a cell of either column is of the kind of both
pub returns-then-is_left-clause-fits : goal.returns-then-is_left-clause-fits
returns-then-is_left-clause-fits c = λ same.
    let left = c.args.left.now in
    let value : cell_at left.cells c.args.row ≡ cell_lent c.cell.result =
    get_or_from_slice_get left.cells c.args.row (cell_lent c.cell.result) cell.Missing c.cell.ensures in
    rw (← value) (chosen-is_of_kind left c.args.right.now c.args.row true false c.kind.ensures.kinds c.kind-2.ensures.kinds same)

pub returns-then-is_right-clause-value : goal.returns-then-is_right-clause-value
returns-then-is_right-clause-value c =
    let right = c.args.right.now in
    let value : cell_at right.cells c.args.row ≡ cell_lent c.cell-then-is_right.result =
    get_or_from_slice_get right.cells c.args.row (cell_lent c.cell-then-is_right.result) cell.Missing c.cell-then-is_right.ensures in
    rw (c.if-is_left.false, c.if-is_right.true) (sym value)

pub returns-then-is_right-clause-fits : goal.returns-then-is_right-clause-fits
returns-then-is_right-clause-fits c = λ same.
    let right = c.args.right.now in
    let value : cell_at right.cells c.args.row ≡ cell_lent c.cell-then-is_right.result =
    get_or_from_slice_get right.cells c.args.row (cell_lent c.cell-then-is_right.result) cell.Missing c.cell-then-is_right.ensures in
    rw (← value) (chosen-is_of_kind c.args.left.now right c.args.row false true c.kind.ensures.kinds c.kind-2.ensures.kinds same)
