use Rattle.hv_pick.specs.Word.{is_picked}
use Rattle.hv_member.proofs.RisingLemmas.{IsSetBelow-filter}
use Rattle.hv_made.proofs.sample.sampled.Goals as goal

-- rows that are kept are still below the number of all
pub from_rows-requires : goal.from_rows-requires
from_rows-requires c =
    let table = c.args.table in
    rw (c.height.ensures.value, c.in_ok-rows.ensures)
    (IsSetBelow-filter table.member.size (λ n. is_picked c.args.seed c.args.threshold table.part n) table.member.rows
    c.height.ensures.whole.member)
