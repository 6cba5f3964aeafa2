use Rattle.std.proofs.Common.{◌∙◌, ap, sym}
use Rattle.std.specs.Prelude.{is_some}
use Rattle.hv_lineage.proofs.ColumnLemmas.{common-next, common-there}
use Rattle.hv_lineage.proofs.columns.have_common_name.Goals as goal

-- one more name that the left hasn't
pub loop-j-preserved : goal.loop-j-preserved
loop-j-preserved c =
    common-next c.args.left.now c.args.right.now c.loop-j.j c.name.result.now c.name.ensures c.loop-j.invariant
    (ap is_some (sym c.find.ensures) ∙ sym c.is_some.ensures ∙ c.if-is_some.false)

-- a name that it has
pub returns-then-is_some : goal.returns-then-is_some
returns-then-is_some c =
    sym (common-there c.args.left.now c.args.right.now c.loop-j.j c.name.result.now c.name.ensures
    (ap is_some (sym c.find.ensures) ∙ sym c.is_some.ensures ∙ c.if-is_some.true))
