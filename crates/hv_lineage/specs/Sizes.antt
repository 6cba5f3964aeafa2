-- How deep terms are and how many nodes they have.
use Rattle.std.specs.Prelude.{ℕ, ◌+◌, max}
use Rattle.hv_lineage.specs.declared.term.Term.{Term, fold-Term}
use Rattle.hv_lineage.specs.declared.term.Term.TheOpen.{Term-F}

-- the depth of a node by those of its inner terms: 1 of a base, else one more than the deepest
abbrev pub node_depth : Term-F ℕ → ℕ
node_depth Term-F.Base = 1
node_depth (Term-F.Filter of pred) = of + 1
node_depth (Term-F.Project of cols) = of + 1
node_depth (Term-F.Derive of name expr) = of + 1
node_depth (Term-F.Sample of seed threshold) = of + 1
node_depth (Term-F.Combine how left right) = max left right + 1

-- the number of nodes by those of the inner terms: 1 of a base, else one more than their sum
abbrev pub node_size : Term-F ℕ → ℕ
node_size Term-F.Base = 1
node_size (Term-F.Filter of pred) = of + 1
node_size (Term-F.Project of cols) = of + 1
node_size (Term-F.Derive of name expr) = of + 1
node_size (Term-F.Sample of seed threshold) = of + 1
node_size (Term-F.Combine how left right) = left + right + 1

-- the depth of a term
unfoldable pub term_depth : Term → ℕ
term_depth = fold-Term ℕ node_depth

-- its number of nodes
unfoldable pub term_size : Term → ℕ
term_size = fold-Term ℕ node_size
