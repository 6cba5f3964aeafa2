use Rattle.hv_column.specs.Rows.{cells_across}
use Rattle.hv_expr.specs.Holds.{holds}
use Rattle.hv_member.proofs.RisingLemmas.{IsSetBelow-filter}
use Rattle.hv_made.proofs.filter.filtered.Goals as goal

-- rows that are kept are still below the number of all
pub from_rows-requires : goal.from_rows-requires
from_rows-requires c =
    let table = c.args.table in
    rw (c.height.ensures.value, c.in_ok-rows.ensures)
    (IsSetBelow-filter table.member.size (λ n. holds table.columns (cells_across table.cols n) c.args.pred.now) table.member.rows
    c.height.ensures.whole.member)
