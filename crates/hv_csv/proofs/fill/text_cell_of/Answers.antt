use Rattle.hv_csv.proofs.Fields.{invalid-text, valid-text}
use Rattle.hv_csv.proofs.fill.text_cell_of.Goals as goal

-- a field is a text where it is UTF-8, and only there
pub returns-in-Ok-clause-cell : goal.returns-in-Ok-clause-cell
returns-in-Ok-clause-cell c = valid-text c.args.field.now c.in-Ok.text.now c.in-Ok.ensures.cases.0 c.in-Ok.ensures.cases.1

pub returns-in-Err-clause-cell : goal.returns-in-Err-clause-cell
returns-in-Err-clause-cell c = invalid-text c.args.field.now c.in-Err.ensures.cases.0
