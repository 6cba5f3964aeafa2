use Rattle.std.proofs.Common.{refl}
use Rattle.hv_lineage.proofs.CheckLemmas.{checked-fit}
use Rattle.hv_made.proofs.derive.kind_over.Goals as goal

-- an expression without a fault has a kind
pub unwrap-requires : goal.unwrap-requires
unwrap-requires c = rw (c.check.ensures, (checked-fit c.args.schema.now c.args.expr.now c.requires).1) refl
