-- Tables that a load or a lineage's base gives: one in the text, or one of the catalog by its name.
use Rattle.std.specs.Prelude.{ℕ, ◌^◌, List, length, Bool, true, ◌&&◌, nat_lt, nat_le, Option, Some, None, option_map, option_and_then, Result, Ok, codes}
use Rattle.std.specs.List.{list_all}
use Rattle.serde_json.specs.Data.{Data}
use Rattle.serde_json.specs.Find.{get, as_str}
use Rattle.hv_value.specs.declared.cell.Kind.{Kind}
use Rattle.hv_value.specs.declared.catalog.TheConstants.{MAX_PARTITIONS}
use Rattle.hv_value.specs.Schema.{Columns}
use Rattle.hv_asked.specs.declared.asked.TableAsked.{TableAsked}
use Rattle.hv_asked.specs.declared.asked.TableAsked.TheVariants.{Inline, Named}
use Rattle.hv_asked.specs.declared.why.Why.{Why}
use Rattle.hv_asked.specs.Flaws.{of_field}
use Rattle.hv_asked.specs.Words.{kind_named}
use Rattle.hv_asked.specs.Fields.{all_read, list_at, pair_in, text_at, texts_at}

-- a column: a list of just a name and a kind's word
abbrev pub column_from : Data × Data → Option (List ℕ × Kind)
column_from pair = option_and_then (λ name. option_map (λ k. (name, k)) (option_and_then kind_named (as_str pair.1))) (as_str pair.0)

abbrev pub column_of : Data → Option (List ℕ × Kind)
column_of value = option_and_then column_from (pair_in value)

-- the columns of a table, whether they make a schema or not
abbrev pub columns_in : Data → Option Columns
columns_in value = option_and_then (all_read column_of) (list_at (codes "schema") value)

-- ---- what a table asks for

abbrev pub inline_of : Data → Result TableAsked Why
inline_of value = of_field (texts_at (codes "parts") value) (λ parts. of_field (columns_in value) (λ columns. Ok (Inline columns parts)))

abbrev pub named_of : Data → Result TableAsked Why
named_of value = of_field (text_at (codes "table") value) (λ name. of_field (columns_in value) (λ columns. Ok (Named columns name)))

-- the form that is given whole where there is one, else the named form
abbrev pub table_of : Option Data → Option Data → Result TableAsked Why
table_of None other = of_field other named_of
table_of (Some value) other = inline_of value

-- the table under a key
abbrev pub table_in : List ℕ → Data → Result TableAsked Why
table_in key value = of_field (get key value) (λ table. table_of (get (codes "inline") table) (get (codes "named") table))

-- ---- its limits

-- whether a partition has fewer than 2^26 bytes
abbrev pub is_short_part : List ℕ → Bool
is_short_part text = nat_lt (length text) (2 ^ 26)

-- whether partitions are within their limits
abbrev pub are_parts : List (List ℕ) → Bool
are_parts parts = nat_le (length parts) MAX_PARTITIONS && list_all is_short_part parts

abbrev pub fits_table : TableAsked → Bool
fits_table (Inline columns parts) = are_parts parts
fits_table (Named columns name) = true
