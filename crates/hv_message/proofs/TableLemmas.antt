-- Tables of a load that are within their limits make bases.
use Rattle.std.proofs.Common.{◌≡◌, ℕ, ◌<◌, ◌≤◌, ◌^◌, List, [], ◌∷◌, length, Bool, true, false, Some, subst, option_map, if◌then◌else◌}
use Rattle.std.specs.Prelude.{nat_le, find}
use Rattle.std.specs.List.{list_all, AllByRecursion}
use Rattle.std.specs.Cmp.{first_so, second_so}
use Rattle.std.proofs.lemmas.Bool.{leb-true, ltb-true}
use Rattle.hv_value.specs.Catalog.{Tables, has_few_parts, have_own_tables, is_catalog, is_table, parts_named}
use Rattle.hv_value.specs.declared.catalog.TheConstants.{MAX_PARTITIONS}
use Rattle.hv_value.specs.Schema.{Columns}
use Rattle.hv_lineage.specs.Bases.{IsFitBase}
use Rattle.hv_lineage.specs.declared.base.Base.TheVariants as base
use Rattle.hv_asked.specs.Tables.{are_parts, is_short_part}

all_short : (parts : List (List ℕ)) → list_all is_short_part parts ≡ true → AllByRecursion (λ text. length text < 2 ^ 26) parts
all_short [] e = tt
all_short (text ∷ parts) e = (
  ltb-true (length text) (2 ^ 26) (first_so (is_short_part text) (list_all is_short_part parts) e),
  all_short parts (second_so (is_short_part text) (list_all is_short_part parts) e),
)

pub inline_fits : (columns : Columns) (parts : List (List ℕ)) → are_parts parts ≡ true → IsFitBase (base.Inline columns parts)
inline_fits columns parts e = record {
  few = leb-true (length parts) MAX_PARTITIONS (first_so (nat_le (length parts) MAX_PARTITIONS) (list_all is_short_part parts) e);
  short = all_short parts (second_so (nat_le (length parts) MAX_PARTITIONS) (list_all is_short_part parts) e);
}

-- a table that is found is one of the list
few_found : (name : List ℕ) (tables : Tables) (parts : ℕ) → list_all has_few_parts tables ≡ true → parts_named name tables ≡ Some parts → parts ≤ MAX_PARTITIONS
few_found name [] parts all e = absurd (cc e)
few_found name (table ∷ tables) parts all e =
    by (is_table name table) e (few_found name tables parts (second_so (has_few_parts table) (list_all has_few_parts tables) all))
  where
    here : table.1 ≤ MAX_PARTITIONS
    here = leb-true table.1 MAX_PARTITIONS (first_so (has_few_parts table) (list_all has_few_parts tables) all)

    by : (t : Bool) → option_map (λ (x : List ℕ × ℕ). x.1) (if t then Some table else find (is_table name) tables) ≡ Some parts
        → (parts_named name tables ≡ Some parts → parts ≤ MAX_PARTITIONS) → parts ≤ MAX_PARTITIONS
    by true f more = subst (λ n. n ≤ MAX_PARTITIONS) (let same : table.1 ≡ parts = cc f in same) here
    by false f more = more f

pub few_named : (name : List ℕ) (tables : Tables) (parts : ℕ) → is_catalog tables ≡ true → parts_named name tables ≡ Some parts → parts ≤ MAX_PARTITIONS
few_named name tables parts catalog e = few_found name tables parts (second_so (have_own_tables tables) (list_all has_few_parts tables) catalog) e
