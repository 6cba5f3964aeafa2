use Rattle.std.proofs.Common.{sym, ◌∙◌}
use Rattle.hv_value.proofs.OrderFacts.{row-apart, row-tied}
use Rattle.hv_value.proofs.orders.compare_at.Goals as goal

pub returns-then-is_ne : goal.returns-then-is_ne
returns-then-is_ne g c = λ found is.
    row-apart c.args.keys.now c.args.cells.now found c.loop-place.place _ _ c.loop-place-test.true c.requires.one_each
    c.compare_cell-found.result _ _ c.compare_cell-found.ensures (c.cell.ensures found is) (c.lent.ensures ∙ c.index-cells-place.is)
    (sym c.is_ne.ensures ∙ c.if-is_ne.true)
    ∙ c.loop-place.invariant found is

pub loop-place-preserved : goal.loop-place-preserved
loop-place-preserved g c = λ found is.
    row-tied c.args.keys.now c.args.cells.now found c.loop-place.place _ _ c.loop-place-test.true c.requires.one_each
    c.compare_cell-found.result _ _ c.compare_cell-found.ensures (c.cell.ensures found is) (c.lent.ensures ∙ c.index-cells-place.is)
    (sym c.is_ne.ensures ∙ c.if-is_ne.false)
    ∙ c.loop-place.invariant found is
