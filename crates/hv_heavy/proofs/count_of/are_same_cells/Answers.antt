use Rattle.std.proofs.lemmas.Slice.Eq.{slice_eq-Decides}
use Rattle.hv_value.specs.SameLaws.{same_by-decides}
use Rattle.hv_value.specs.contracts.cell.Cell as cell
use Rattle.hv_heavy.proofs.count_of.are_same_cells.Goals as goal

pub returns : goal.returns
returns c = slice_eq-Decides (same_by-decides cell.the_row.coded) c.args.a.now c.args.b.now c.eq.result c.eq.ensures
