-- A base reads back from its JSON, where the catalog has its table.
use Rattle.std.proofs.Common.{◌≡◌, ◌<◌, ◌^◌, ℕ, List, [], ◌∷◌, length, map, true, Some, Ok, refl}
use Rattle.std.specs.List.{AllByRecursion, list_all}
use Rattle.std.proofs.lemmas.Bool.{le-leb, lt-ltb}
use Rattle.serde_json.specs.Data.{string}
use Rattle.serde_json.specs.Find.{as_str}
use Rattle.serde_json.specs.View.{items_of}
use Rattle.serde_json.proofs.OnLiterals.{serde_json_on_literals}
use Rattle.hv_value.specs.Catalog.{Tables}
use Rattle.hv_value.specs.Schema.{Columns, is_schema}
use Rattle.hv_value.specs.declared.catalog.TheConstants.{MAX_PARTITIONS}
use Rattle.hv_lineage.specs.Bases.{IsFitBase, base_columns}
use Rattle.hv_lineage.specs.Lineages.{TermOver}
use Rattle.hv_lineage.specs.declared.base.Base.{Base}
use Rattle.hv_lineage.specs.declared.base.Base.TheVariants as base
use Rattle.hv_lineage.specs.declared.term.Term.TheVariants as term
use Rattle.hv_asked.specs.Fields.{all_read}
use Rattle.hv_message.specs.LineageTexts.{base_in}
use Rattle.hv_asked.specs.Tables.{are_parts, column_of, is_short_part}
use Rattle.hv_asked.proofs.WordLemmas.{kind_back}
use Rattle.hv_reply.specs.Lineages.{column_data, lineage_data}
use Rattle.hv_reply.specs.ReadBack.{IsKnownBase}

-- the lineage of a base
abbrev pub based : Base → TermOver
based b = record { base = b; term = term.Base }

columns_back : (columns : Columns) → all_read column_of (items_of (map column_data columns)) ≡ Some columns
columns_back [] = refl
columns_back (column ∷ columns) = rw (kind_back column.1, columns_back columns) refl

pub texts_back : (texts : List (List ℕ)) → all_read as_str (items_of (map string texts)) ≡ Some texts
texts_back [] = refl
texts_back (text ∷ texts) = rw (texts_back texts) refl

short_parts : (parts : List (List ℕ)) → AllByRecursion (λ text. length text < 2 ^ 26) parts → list_all is_short_part parts ≡ true
short_parts [] short = refl
short_parts (text ∷ parts) short = rw (lt-ltb (length text) (2 ^ 26) short.0) (short_parts parts short.1)

fit_parts : (columns : Columns) (parts : List (List ℕ)) → IsFitBase (base.Inline columns parts) → are_parts parts ≡ true
fit_parts columns parts fit = rw (le-leb (length parts) MAX_PARTITIONS fit.few) (short_parts parts fit.short)

pub base_back : (tables : Tables) (lineage : TermOver) → IsFitBase lineage.base → is_schema (base_columns lineage.base) ≡ true
    → IsKnownBase tables lineage.base → base_in tables (lineage_data lineage) ≡ Ok (based lineage.base)
unfolding serde_json_on_literals
base_back tables lineage fit whole known = by lineage.base fit whole known
  where
    by : (b : Base) → IsFitBase b → is_schema (base_columns b) ≡ true → IsKnownBase tables b
        → base_in tables (lineage_data (record { base = b; term = lineage.term })) ≡ Ok (based b)
    by (base.Inline columns parts) fit whole known = rw (texts_back parts, columns_back columns, fit_parts columns parts fit, whole) refl
    by (base.Named columns table parts) fit whole known = rw (columns_back columns, known, whole) refl
