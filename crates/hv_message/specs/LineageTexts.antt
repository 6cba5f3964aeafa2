-- What a text means as a lineage, or the word that says why it means none: this project's own rule. It is built from the base up, with
-- the checks of the messages that would make it: the base's first, then those of each term, from the inside out.
use Rattle.std.specs.Prelude.{ℕ, zero, suc, List, if◌then◌else◌, Option, Some, None, Result, Ok, Err, bytes_eq, codes}
use Rattle.serde_json.specs.Data.{Data}
use Rattle.serde_json.specs.Find.{get}
use Rattle.hv_value.specs.Catalog.{Tables}
use Rattle.hv_lineage.specs.Lineages.{TermOver}
use Rattle.hv_asked.specs.declared.why.Why.{Why}
use Rattle.hv_asked.specs.declared.why.Why.TheVariants as why
use Rattle.hv_asked.specs.Fields.{text_at}
use Rattle.hv_asked.specs.Flaws.{and_then, of_field, within}
use Rattle.hv_message.specs.Messages.{object_of}
use Rattle.hv_asked.specs.Tables.{fits_table, table_in}
use Rattle.hv_message.specs.Tables.{loaded}
use Rattle.hv_message.specs.Terms.{both_combined, derive_of, filter_of, over, project_of, sample_of}
use Rattle.hv_message.specs.Words.{how2_in}
use Rattle.hv_asked.specs.Trees.{levels}

-- the lineage of the base, in the form in which a load gives a table
abbrev pub base_in : Tables → Data → Result TermOver Why
base_in tables value = and_then (loaded tables) (and_then (within fits_table) (table_in (codes "base") value))

-- ---- terms

-- a term over the inner one, which is read so
abbrev pub over_inner : (Data → Result TermOver Why) → Data → (TermOver → Result TermOver Why) → Result TermOver Why
over_inner inner value make = and_then make (of_field (get (codes "of") value) inner)

-- what is made of two terms: what is wrong with the left one is told first
abbrev pub of_both : Result TermOver Why → Result TermOver Why → (TermOver → TermOver → Result TermOver Why) → Result TermOver Why
of_both (Ok left) (Ok right) make = make left right
of_both (Ok left) (Err word) make = Err word
of_both (Err word) right make = Err word

-- the left and the right term, which are read so, combined
abbrev pub combine_in : (Data → Result TermOver Why) → Data → Result TermOver Why
combine_in inner value = of_both (of_field (get (codes "left") value) inner) (of_field (get (codes "right") value) inner) (λ left right.
    of_field (how2_in value) (λ how. both_combined how left right))

-- a term over a base by its word, its inner terms read so
abbrev pub term_with : (Data → Result TermOver Why) → TermOver → Data → List ℕ → Result TermOver Why
term_with inner base value word =
    if bytes_eq word (codes "base") then Ok base
    else if bytes_eq word (codes "filter") then over_inner inner value (over filter_of value)
    else if bytes_eq word (codes "project") then over_inner inner value (over project_of value)
    else if bytes_eq word (codes "derive") then over_inner inner value (over derive_of value)
    else if bytes_eq word (codes "sample") then over_inner inner value (over sample_of value)
    else if bytes_eq word (codes "combine") then combine_in inner value
    else Err why.Field

-- a term over a base, of at most so many levels
unfoldable pub term_in : ℕ → TermOver → Data → Result TermOver Why
term_in zero base value = Err why.Field
term_in (suc n) base value = of_field (text_at (codes "t") value) (term_with (term_in n base) base value)

-- ---- lineages

-- what a value means as a lineage
unfoldable pub lineage_of_data : Tables → Data → Result TermOver Why
lineage_of_data tables value = and_then (λ (base : TermOver). of_field (get (codes "term") value) (term_in levels base)) (base_in tables value)

abbrev pub lineage_of_object : Tables → Option Data → Result TermOver Why
lineage_of_object tables None = Err why.Json
lineage_of_object tables (Some value) = lineage_of_data tables value

-- what a text means as a lineage
unfoldable pub lineage_of_text : Tables → List ℕ → Result TermOver Why
lineage_of_text tables text = lineage_of_object tables (object_of text)
