use Rattle.std.proofs.Common.{◌≡◌, ◌∙◌, ap, sym, true}
use Rattle.std.specs.Prelude.{option_map}
use Rattle.hv_value.specs.Rows.{Row}
use Rattle.hv_member.specs.Sets.{is_in}
use Rattle.hv_column.specs.Rows.{row_across}
use Rattle.hv_made.proofs.RowSteps.{row-there}
use Rattle.hv_made.proofs.derive.value_at.Goals as goal

-- a row that is in the set is there
pub eval-requires-clause-row_there : goal.eval-requires-clause-row_there
eval-requires-clause-row_there c =
    let there : is_in c.args.row c.args.table.now.member.rows ≡ true = rw c.member.ensures.value at (sym c.contains.ensures ∙ c.if-contains.true) in
    ap (option_map (λ (row : Row). row.number)) (row-there c.args.table.now c.args.row c.member.ensures.whole there)

-- and has the expression's value
pub returns-then-contains : goal.returns-then-contains
returns-then-contains c = λ e ready.
    let table = c.args.table.now in
    let there : is_in c.args.row table.member.rows ≡ true = rw c.member.ensures.value at (sym c.contains.ensures ∙ c.if-contains.true) in
    rw there (c.eval.ensures e (row_across table.part table.cols c.args.row) ready (row-there table c.args.row c.member.ensures.whole there))
