use Rattle.std.proofs.Common.{◌-◌, length, sym, ◌∙◌, arith}
use Rattle.hv_value.specs.Order.{compare_cells}
use Rattle.hv_sketch.proofs.Places.{put-last}
use Rattle.hv_value.specs.CellOrder.{cells_total}
use Rattle.hv_range.specs.CellLaws.{is-less}
use Rattle.hv_range.specs.Distinct.{kept}
use Rattle.hv_range.proofs.values.is_above.Goals as goal

pub returns-then-count-gt0 : goal.returns-then-count-gt0
returns-then-count-gt0 c = λ above.
    put-last compare_cells kept cells_total _ c.index-cells-count.result c.args.cells.now (length c.args.cells.now - 1) c.requires
    (omega (arith, c.if-count-gt0.true))
    (rw (← c.index-cells-count.is) (sym c.order_to.ensures ∙ is-less _ (sym c.is_lt.ensures ∙ above)))
