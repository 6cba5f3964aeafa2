use Rattle.hv_next.proofs.FitFacts.{other_many}
use Rattle.hv_next.proofs.keys.are_cells_of.Goals as goal

pub returns-then-keys-cells : goal.returns-then-keys-cells
returns-then-keys-cells c = other_many c.args.schema.now c.args.keys.now c.args.cells.now c.if-keys-cells.true
