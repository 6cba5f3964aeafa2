use Rattle.std.proofs.Common.{◌<◌, ◌+◌, ◌*◌, subst}
use Rattle.hv_sketch.specs.ColumnCells.{cells_in}
use Rattle.hv_heavy.specs.Heavy.{count_of}
use Rattle.hv_heavy.proofs.Near.{frequent-some, pair-of_estimate}
use Rattle.hv_heavy.proofs.laws.frequent_values_stay.Goals as goal

pub returns : goal.returns
returns c = λ rows value heavy many.
    let view = c.args.view.now in
    let summary = c.args.summary.now in
    let count = count_of (cells_in view.col rows) in
    pair-of_estimate summary.pairs value
    (frequent-some view.k _ count summary.pairs value heavy.pairs.near (subst (λ n. n < (view.k + 1) * count value) heavy.n many))
