use Rattle.hv_value.specs.SameLaws.{same_by-decides}
use Rattle.hv_value.specs.contracts.schema.Schema as row
use Rattle.hv_lineage.proofs.base.are_same_schemas.Goals as goal

-- the test of schemas decides sameness
pub returns : goal.returns
returns c = let h = c.eq.ensures in rw h (same_by-decides row.the_row.coded c.args.a.now c.args.b.now)
