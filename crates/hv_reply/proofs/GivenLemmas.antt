-- A table as it was loaded, without a node over it, is a lineage that a text can give.
use Rattle.std.proofs.Common.{ℕ, List, refl, subst}
use Rattle.hv_value.specs.Catalog.{Tables}
use Rattle.hv_value.specs.Schema.{Columns}
use Rattle.hv_lineage.specs.declared.base.Base.TheVariants as base
use Rattle.hv_lineage.specs.declared.term.Term.{every-Term, every_made-Term}
use Rattle.hv_lineage.specs.declared.term.Term.TheOpen.{Term-F}
use Rattle.hv_lineage.specs.declared.term.Term.TheVariants as term
use Rattle.hv_reply.specs.ReadBack.{IsGiven, IsGivenNode}

pub loaded_is_given : (tables : Tables) (columns : Columns) (parts : List (List ℕ)) → IsGiven tables (record { base = base.Inline columns parts; term = term.Base })
loaded_is_given tables columns parts =
    record {
      known = tt;
      trees = subst (every-Term IsGivenNode) term.rolls-Base (every_made-Term IsGivenNode Term-F.Base Term-F.Base refl tt);
    }
