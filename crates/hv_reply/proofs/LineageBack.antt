-- A lineage reads back from its JSON, and from its text.
use Rattle.std.proofs.Common.{◌≡◌, ◌∙◌, ℕ, List, true, Option, Some, Ok, ap, arith, codes, option_and_then}
use Rattle.serde_json.specs.Data.{Data}
use Rattle.serde_json.specs.Find.{get}
use Rattle.serde_json.specs.Read.{read}
use Rattle.serde_json.proofs.OnLiterals.{serde_json_on_literals}
use Rattle.hv_value.specs.Catalog.{Tables}
use Rattle.hv_value.specs.Schema.{is_schema}
use Rattle.hv_lineage.specs.Bases.{base_columns}
use Rattle.hv_lineage.specs.Lineages.{IsLineage, TermOver}
use Rattle.hv_asked.specs.Flaws.{and_then, of_field}
use Rattle.hv_message.specs.LineageTexts.{lineage_of_data, lineage_of_object, lineage_of_text, term_in}
use Rattle.hv_message.specs.Messages.{as_object_value}
use Rattle.hv_asked.specs.Trees.{levels}
use Rattle.hv_reply.specs.Lineages.{lineage_data}
use Rattle.hv_reply.specs.ReadBack.{IsGiven}
use Rattle.hv_reply.proofs.BaseBack.{base_back}
use Rattle.hv_reply.proofs.TermBack.{term_back}

pub data_back : (tables : Tables) (lineage : TermOver) → IsLineage lineage → is_schema (base_columns lineage.base) ≡ true → IsGiven tables lineage
    → lineage_of_data tables (lineage_data lineage) ≡ Ok lineage
unfolding lineage_of_data serde_json_on_literals
data_back tables lineage kept whole given =
    ap (and_then (λ (base : TermOver). of_field (get (codes "term") (lineage_data lineage)) (term_in levels base))) (base_back tables lineage kept.base whole given.known)
    ∙ term_back lineage.base lineage.term kept.fits given.trees kept.shallow kept.small levels (omega (arith, kept.shallow))

-- a text that is read as its JSON
pub text_back : (tables : Tables) (lineage : TermOver) (text : List ℕ) → IsLineage lineage → is_schema (base_columns lineage.base) ≡ true → IsGiven tables lineage
    → read text ≡ Some (lineage_data lineage) → lineage_of_text tables text ≡ Ok lineage
unfolding lineage_of_text
text_back tables lineage text kept whole given is =
    ap (λ (value : Option Data). lineage_of_object tables (option_and_then as_object_value value)) is ∙ data_back tables lineage kept whole given
