-- What a hash of a base, a term or a lineage writes: a number for the node, then its parts in order.
use Rattle.std.specs.Prelude.{ℕ, ◌++◌, flat_map}
use Rattle.std.specs.Hash as fed
use Rattle.hv_expr.specs.Hashes.{expr_writes, pred_writes}
use Rattle.hv_lineage.specs.declared.base.Base.{Base}
use Rattle.hv_lineage.specs.declared.how.How2.{How2}
use Rattle.hv_lineage.specs.declared.how.How2.TheVariants as how2
use Rattle.hv_lineage.specs.declared.term.Term.{Term, fold-Term}
use Rattle.hv_lineage.specs.declared.term.Term.TheOpen.{Term-F}
use Rattle.hv_lineage.specs.Bases.{base_parts, base_text}
use Rattle.hv_lineage.specs.Lineages.{TermOver}

-- of a base only the number of partitions and one text, since an inline table may have a MiB of text
abbrev pub base_writes : Base → fed.HashWrites
base_writes b = fed.usize (base_parts b) ++ fed.str (base_text b)

abbrev pub how_number : How2 → ℕ
how_number how2.Zip = 0
how_number how2.Union = 1
how_number how2.Both = 2
how_number how2.Minus = 3

abbrev pub node_writes : Term-F fed.HashWrites → fed.HashWrites
node_writes Term-F.Base = fed.u8 0
node_writes (Term-F.Filter of pred) = fed.u8 1 ++ pred_writes pred ++ of
node_writes (Term-F.Project of cols) = fed.u8 2 ++ flat_map fed.str cols ++ of
node_writes (Term-F.Derive of name expr) = fed.u8 3 ++ fed.str name ++ expr_writes expr ++ of
node_writes (Term-F.Sample of seed threshold) = fed.u8 4 ++ fed.u64 seed ++ fed.u64 threshold ++ of
node_writes (Term-F.Combine how left right) = fed.u8 5 ++ fed.u8 (how_number how) ++ left ++ right

unfoldable pub term_writes : Term → fed.HashWrites
term_writes = fold-Term fed.HashWrites node_writes

abbrev pub lineage_writes : TermOver → fed.HashWrites
lineage_writes lineage = base_writes lineage.base ++ term_writes lineage.term
