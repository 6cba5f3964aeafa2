use Rattle.std.proofs.Common.{◌≡◌, List, ◌∙◌}
use Rattle.std.proofs.lemmas.Result.{on_ok_weaker}
use Rattle.hv_value.specs.declared.cell.Cell.{Cell}
use Rattle.hv_value.specs.Cells.{cell_lent}
use Rattle.hv_value.specs.Order.{compare_cells}
use Rattle.hv_sketch.specs.Rising.{put}
use Rattle.hv_range.specs.Distinct.{first_of, kept}
use Rattle.hv_range.specs.DistinctSums.{with_inserted}
use Rattle.hv_range.proofs.DistinctFacts.{add_new, add_same}
use Rattle.hv_range.proofs.distinct_summary.add_value.Goals as goal

pub returns-in-Ok : goal.returns-in-Ok
returns-in-Ok c = λ values is. add_same _ _ values _ is (rw c.as_slice.ensures at c.in-Ok.ensures.there)

pub returns-in-Err : goal.returns-in-Err
returns-in-Err c =
    let value : Cell = cell_lent c.args.cell in
    let step : (c.insert_value.new.summary ≡ with_inserted c.args.k c.in-Err.place value c.args.summary.now)
    → (values : List Cell) → c.args.summary.now ≡ first_of c.args.k values
    → c.insert_value.new.summary ≡ first_of c.args.k (put compare_cells kept value values) =
    λ added values is. added ∙ add_new _ _ values _ _ is (rw c.as_slice.ensures at c.in-Err.ensures.within) (rw c.as_slice.ensures at c.in-Err.ensures.between) in
    on_ok_weaker c.insert_value.result step c.insert_value.ensures
