use Rattle.std.proofs.Common.{◌≡◌, ◌<◌, ◌+◌, ◌^◌, ◌++◌, ◌∷◌, [], List, false, length, sym, arith}
use Rattle.std.proofs.lemmas.Result.{on_ok_weaker}
use Rattle.hv_value.specs.declared.cell.Cell.{Cell}
use Rattle.hv_value.specs.Cells.{cell_lent}
use Rattle.hv_sketch.specs.ColumnCells.{is_missing}
use Rattle.hv_heavy.specs.Counting.{IsGathered}
use Rattle.hv_heavy.proofs.HeavyFacts.{gathered-fits, gathered-n, gathered-value}
use Rattle.hv_heavy.proofs.misra_gries.MisraGriesCellGather.add_cell.Goals as goal

pub count-requires-clause-fits : goal.count-requires-clause-fits
count-requires-clause-fits c =
    let so_far = c.requires.kept_so_far in
    omega (arith, gathered-fits c.args.self.now.k so_far.0 c.args.kept.now so_far.1)

pub overflow_add-kept-2 : goal.overflow_add-kept-2
overflow_add-kept-2 c =
    let so_far = c.requires.kept_so_far in
    omega (arith, gathered-n c.args.self.now.k so_far.0 c.args.kept.now so_far.1, so_far.2)

pub cut-requires : goal.cut-requires
cut-requires c =
    let so_far = c.requires.kept_so_far in
    let value : Cell = cell_lent c.args.cell in
    let there : is_missing value ≡ false = sym c.if-is_missing.ensures in
    (so_far.0 ++ value ∷ [], gathered-value c.args.self.now.k so_far.0 value c.args.kept.now so_far.1 so_far.2 c.count.new.self there c.in_ok-count.ensures)

-- a value more, and the cut of the counts
pub returns-then-are_many : goal.returns-then-are_many
returns-then-are_many c =
    let k = c.args.self.now.k in
    let kept = c.args.kept.now in
    let value : Cell = cell_lent c.args.cell in
    let there : is_missing value ≡ false = sym c.if-is_missing.ensures in
    let step : ((cells : List Cell) → IsGathered k cells (record { missing = kept.missing; n = kept.n + 1; done = kept.done; counts = c.count.new.self }) → IsGathered k cells c.cut.new.kept)
    → (cells : List Cell) → IsGathered k cells kept → length cells < 2 ^ 42 → IsGathered k (cells ++ value ∷ []) c.cut.new.kept =
    λ cut_to cells so_far room. cut_to (cells ++ value ∷ []) (gathered-value k cells value kept so_far room c.count.new.self there c.in_ok-count.ensures) in
    on_ok_weaker c.cut.result step c.cut.ensures

pub returns : goal.returns
returns c = λ cells so_far room.
    let value : Cell = cell_lent c.args.cell in
    let there : is_missing value ≡ false = sym c.if-is_missing.ensures in
    gathered-value c.args.self.now.k cells value c.args.kept.now so_far room c.count.new.self there c.in_ok-count.ensures
