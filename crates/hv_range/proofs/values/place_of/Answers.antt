use Rattle.std.proofs.Common.{refl, rules}
use Rattle.std.proofs.lemmas.Fn.{always_returns_same}
use Rattle.hv_value.specs.Cells.{cell_lent}
use Rattle.hv_value.specs.Order.{compare_cells}
use Rattle.hv_sketch.proofs.Places.{search_place, search_there, search_within, searched}
use Rattle.hv_value.specs.CellOrder.{cells_total}
use Rattle.hv_range.specs.Distinct.{kept}
use Rattle.hv_range.proofs.values.place_of.Goals as goal

-- the closure compares each cell with the one that is looked for
pub returns : goal.returns
returns c =
    let facts = c.binary_search_by.ensures in
    let by_order = facts.position (λ other. compare_cells other (cell_lent c.args.cell)) (always_returns_same _ _ _ (λ a r f called. (search rules, search rules))) in
    let told = searched compare_cells kept cells_total (cell_lent c.args.cell) c.args.cells.now c.binary_search_by.result c.requires facts.bound by_order in
    record { there = search_there compare_cells kept _ _ _ (λ y. refl) told; within = search_within compare_cells kept _ _ _ told; between = search_place compare_cells kept _ _ _ told }
