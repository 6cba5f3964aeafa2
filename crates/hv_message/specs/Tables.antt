-- What a table that a load or a lineage's base gives means: the lineage of its base, where its columns make a schema.
use Rattle.std.specs.Prelude.{ℕ, List, if◌then◌else◌, Option, Some, None, Result, Ok, Err}
use Rattle.hv_value.specs.Catalog.{Tables, parts_named}
use Rattle.hv_value.specs.Schema.{Columns, is_schema}
use Rattle.hv_lineage.specs.declared.base.Base.{Base}
use Rattle.hv_lineage.specs.declared.base.Base.TheVariants as base
use Rattle.hv_lineage.specs.declared.term.Term.TheVariants as term
use Rattle.hv_lineage.specs.Lineages.{TermOver}
use Rattle.hv_asked.specs.declared.asked.TableAsked.{TableAsked}
use Rattle.hv_asked.specs.declared.asked.TableAsked.TheVariants.{Inline, Named}
use Rattle.hv_asked.specs.declared.why.Why.{Why}
use Rattle.hv_asked.specs.declared.why.Why.TheVariants as why

-- the base as it is, with columns that make a schema
abbrev pub over : Columns → Base → Result TermOver Why
over columns b = if is_schema columns then Ok (record { base = b; term = term.Base }) else Err why.Schema

abbrev pub named_over : Columns → List ℕ → Option ℕ → Result TermOver Why
named_over columns name None = Err why.Table
named_over columns name (Some parts) = over columns (base.Named columns name parts)

abbrev pub loaded : Tables → TableAsked → Result TermOver Why
loaded tables (Inline columns parts) = over columns (base.Inline columns parts)
loaded tables (Named columns name) = named_over columns name (parts_named name tables)
