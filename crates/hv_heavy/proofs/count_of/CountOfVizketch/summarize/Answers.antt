use Rattle.std.proofs.Common.{IfOk, List, ◌∙◌, subst}
use Rattle.hv_value.specs.declared.cell.Cell.{Cell}
use Rattle.hv_heavy.specs.CountOf.{IsCount}
use Rattle.hv_heavy.proofs.count_of.CountOfVizketch.summarize.Goals as goal

-- the places are those of the view's values
pub returns : goal.returns
returns g c =
    subst (λ (values : List Cell). IfOk c.tally.result (λ counts. IsCount c.args.self.now.col values (g.T.Table.rows c.args.table.now) counts))
    (c.in_ok-places.ensures ∙ c.as_slice.ensures) c.tally.ensures
