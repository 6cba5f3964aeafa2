use Rattle.hv_sketch.proofs.ColumnFacts.{any_column}
use Rattle.hv_range.proofs.distinct.DistinctVizketch.summarize.Goals as goal

pub gather_cells-requires : goal.gather_cells-requires
gather_cells-requires g c = any_column (g.T.Table.columns c.args.table.now) c.args.self.now.col c.requires
