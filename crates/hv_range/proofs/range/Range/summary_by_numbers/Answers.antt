use Rattle.hv_range.proofs.NumberFacts.{ends_kind}
use Rattle.hv_range.proofs.range.Range.summary_by_numbers.Goals as goal

pub summary-requires-clause-least : goal.summary-requires-clause-least
summary-requires-clause-least g c = (ends_kind _ _ _ c.in_ok-gather_cells.ensures).0

pub summary-requires-clause-greatest : goal.summary-requires-clause-greatest
summary-requires-clause-greatest g c = (ends_kind _ _ _ c.in_ok-gather_cells.ensures).1
