use Rattle.hv_lineage.proofs.Refused.{base-differs, base-same}
use Rattle.hv_lineage.proofs.lineage.Lineage.with_base_of.Goals as goal

-- the same base is no reason
pub returns-then-same_base-clause-ok : goal.returns-then-same_base-clause-ok
returns-then-same_base-clause-ok c =
    let same = c.same_base.ensures.0 c.if-same_base.true in
    (base-same c.args.self.now.base c.args.other.now.base same, same)

-- another one is
pub returns-else-same_base-clause-err : goal.returns-else-same_base-clause-err
returns-else-same_base-clause-err c =
    base-differs c.args.self.now.base c.args.other.now.base c.same_base.result c.same_base.ensures c.if-same_base.false
