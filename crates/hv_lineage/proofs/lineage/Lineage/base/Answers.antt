use Rattle.hv_lineage.proofs.TermNodes.{hold-Base}
use Rattle.hv_lineage.proofs.lineage.Lineage.base.Goals as goal

-- a base keeps what each lineage does
pub invariant_of-new : goal.invariant_of-new
invariant_of-new c =
    rw (c.in_ok-base.ensures.ok, c.in_ok-schema.ensures, c.in_ok-copy_schema.ensures, c.schema.ensures) (hold-Base c.args.base c.requires)
