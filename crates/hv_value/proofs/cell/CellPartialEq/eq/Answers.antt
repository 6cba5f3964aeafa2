use Rattle.hv_value.specs.SameLaws.{same_by-is}
use Rattle.hv_value.specs.contracts.cell.Cell as row
use Rattle.hv_value.proofs.cell.CellPartialEq.eq.Goals as goal

-- src/cell.rt:80:5
pub returns : goal.returns
returns c = same_by-is row.the_row.coded c.are_same.result c.args.self.now c.args.other.now c.are_same.ensures
