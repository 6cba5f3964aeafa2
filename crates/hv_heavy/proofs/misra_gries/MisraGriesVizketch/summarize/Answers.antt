use Rattle.std.proofs.Common.{refl}
use Rattle.hv_sketch.proofs.ColumnFacts.{any_column}
use Rattle.hv_sketch.specs.ColumnCells.{cells_in}
use Rattle.hv_heavy.proofs.Gathered.{found-fits}
use Rattle.hv_heavy.proofs.misra_gries.MisraGriesVizketch.summarize.Goals as goal

pub gather_cells-requires : goal.gather_cells-requires
gather_cells-requires g c = any_column (g.T.Table.columns c.args.table.now) c.args.self.now.col c.requires

pub settled-requires-clause-fits : goal.settled-requires-clause-fits
settled-requires-clause-fits g c =
    let view = c.args.self.now in
    let kept = c.in_ok-missing.field-0 in
    found-fits view.k (cells_in view.col (g.T.Table.rows c.args.table.now)) kept c.in_ok-missing.ensures c.as_slice.result.now kept.counts c.as_slice.ensures refl
