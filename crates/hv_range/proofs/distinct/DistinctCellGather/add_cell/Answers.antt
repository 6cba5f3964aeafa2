use Rattle.std.proofs.Common.{◌≡◌, ◌<◌, ◌^◌, ◌++◌, ◌∷◌, [], List, length, sym, ◌∙◌, false}
use Rattle.std.proofs.lemmas.Result.{on_ok_weaker}
use Rattle.hv_value.specs.declared.cell.Cell.{Cell}
use Rattle.hv_value.specs.Cells.{cell_lent}
use Rattle.hv_value.specs.Order.{compare_cells}
use Rattle.hv_sketch.specs.ColumnCells.{is_missing}
use Rattle.hv_sketch.specs.Rising.{put}
use Rattle.hv_range.specs.Distinct.{distinct_of_cells, distinct_values, first_of, kept}
use Rattle.hv_range.proofs.DistinctFacts.{distinct-missing, distinct-more, distinct-rises}
use Rattle.hv_range.proofs.distinct.DistinctCellGather.add_cell.Goals as goal

pub returns-then-is_missing : goal.returns-then-is_missing
returns-then-is_missing c = λ cells so_far few. so_far ∙ sym (distinct-missing _ cells _ (sym c.if-is_missing.ensures))

pub add_value-requires-clause-rising : goal.add_value-requires-clause-rising
add_value-requires-clause-rising c = distinct-rises c.args.self.now.k c.requires.kept_so_far.0 _ c.requires.kept_so_far.1

pub returns : goal.returns
returns c =
    let view = c.args.self.now in
    let value : Cell = cell_lent c.args.cell in
    let present : is_missing value ≡ false = sym c.if-is_missing.ensures in
    let step : ((values : List Cell) → c.args.kept.now ≡ first_of view.k values
    → c.add_value.new.summary ≡ first_of view.k (put compare_cells kept value values))
    → (cells : List Cell) → c.args.kept.now ≡ distinct_of_cells view.k cells → length cells < 2 ^ 42
    → c.add_value.new.summary ≡ distinct_of_cells view.k (cells ++ value ∷ []) =
    λ added cells so_far few. added (distinct_values cells) so_far ∙ sym (distinct-more view.k cells value present) in
    on_ok_weaker c.add_value.result step c.add_value.ensures
