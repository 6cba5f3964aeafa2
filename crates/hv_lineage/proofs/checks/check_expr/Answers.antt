use Rattle.std.proofs.Common.{refl}
use Rattle.hv_lineage.proofs.CheckLemmas.{check-fault}
use Rattle.hv_lineage.proofs.checks.check_expr.Goals as goal

-- an error of the check is the fault, as a refusal
pub returns-in-Err-clause-err : goal.returns-in-Err-clause-err
returns-in-Err-clause-err c = rw (check-fault c.args.schema.now c.args.expr.now c.in-Err.fault c.in-Err.ensures, c.from.ensures) refl
