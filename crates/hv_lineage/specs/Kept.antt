-- What the fields of a lineage keep. Only its model and private calls name this; no clause of a public call does.
use Rattle.std.specs.Prelude.{ℕ, ◌≡◌}
use Rattle.hv_value.specs.Schema.{Columns}
use Rattle.hv_lineage.specs.declared.term.Term.{Term, every-Term}
use Rattle.hv_lineage.specs.Bases.{base_columns}
use Rattle.hv_lineage.specs.Lineages.{IsFitNode, IsLineage, TermOver, lineage_columns}
use Rattle.hv_lineage.specs.Made.{columns_of}
use Rattle.hv_lineage.specs.Sizes.{term_depth, term_size}

-- what a lineage keeps beside its base and term: the columns, depth and size that these have
pub record HoldLineage (lineage : TermOver) (columns : Columns) (depth size : ℕ) : Type 0 where
  pub whole : IsLineage lineage
  pub kept_columns : columns ≡ lineage_columns lineage
  pub kept_depth : depth ≡ term_depth lineage.term
  pub kept_size : size ≡ term_size lineage.term

-- a term can be used over the base of a lineage, makes these columns, and has this depth and so many nodes
pub record Extends (lineage : TermOver) (longer : Term) (columns : Columns) (depth size : ℕ) : Type 0 where
  pub fits : every-Term (IsFitNode (base_columns lineage.base)) longer
  pub made : columns ≡ columns_of (base_columns lineage.base) longer
  pub deeper : term_depth longer ≡ depth
  pub larger : term_size longer ≡ size
