use Rattle.hv_lineage.proofs.FlatLemmas.{joined-sets}
use Rattle.hv_lineage.proofs.laws.joined_parts_have_both_rows.Goals as goal

-- by the joined set, one partition after the other
pub returns : goal.returns
returns c = λ told lineage size a b xs ys sa sb apart are these. joined-sets told lineage size a b xs ys sa sb apart are these
