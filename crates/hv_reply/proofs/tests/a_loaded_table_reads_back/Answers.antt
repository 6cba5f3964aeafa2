use Rattle.std.proofs.Common.{subst, sym}
use Rattle.hv_reply.specs.ReadBack.{IsGiven}
use Rattle.hv_reply.proofs.tests.a_loaded_table_reads_back.Goals as goal

pub read_back-requires : goal.read_back-requires
read_back-requires g c = subst (IsGiven c.new-2.result) (sym c.deref.ensures) (c.in_ok-lineage.ensures c.new-2.result)
