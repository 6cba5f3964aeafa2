use Rattle.std.proofs.Common.{◌≡◌, ◌<◌, ◌^◌, ◌++◌, ◌∷◌, [], List, length, subst, true}
use Rattle.std.proofs.lemmas.Result.{on_ok_weaker}
use Rattle.hv_value.specs.Cells.{cell_lent, is_of_kind}
use Rattle.hv_value.specs.declared.cell.Cell.{Cell}
use Rattle.hv_range.specs.IsRange.{IsCellRange}
use Rattle.hv_range.specs.RangeSums.{cell_range, range_sum}
use Rattle.hv_range.proofs.RangeFacts.{IsCellRange-more, can_add_cell}
use Rattle.hv_range.proofs.range.RangeCellGather.add_cell.Goals as goal

pub add_cell-requires : goal.add_cell-requires
add_cell-requires c = λ small.
    let so_far = c.requires.kept_so_far in
    let kind : is_of_kind c.args.self.now.kind (cell_lent c.args.cell) ≡ true =
    subst (λ k. is_of_kind k (cell_lent c.args.cell) ≡ true) c.requires.taken.1 c.requires.taken.2 in
    can_add_cell _ _ _ _ so_far.1 so_far.2 record { kind_is = kind; small = small }

-- the range of the cells so far and that of the cell are the range of both
pub returns : goal.returns
returns c =
    let view = c.args.self.now in
    let kind : is_of_kind view.kind (cell_lent c.args.cell) ≡ true =
    subst (λ k. is_of_kind k (cell_lent c.args.cell) ≡ true) c.requires.taken.1 c.requires.taken.2 in
    let step : (c.add_cell.new.kept ≡ range_sum c.args.kept.now (cell_range (cell_lent c.args.cell)))
    → (cells : List Cell) → IsCellRange view.kind cells c.args.kept.now → length cells < 2 ^ 42
    → IsCellRange view.kind (cells ++ cell_lent c.args.cell ∷ []) c.add_cell.new.kept =
    λ added cells so_far few.
    rw added (IsCellRange-more _ cells _ _ so_far few record { kind_is = kind; small = c.add_cell.ensures.small }) in
    on_ok_weaker c.add_cell.result step c.add_cell.ensures.value
