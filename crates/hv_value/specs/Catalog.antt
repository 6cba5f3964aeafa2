-- A catalog: the tables that the server was started with, each a name and its number of partitions.
use Rattle.std.specs.Prelude.{ℕ, List, [], ◌∷◌, Bool, true, not, ◌&&◌, nat_le, Option, option_map, find, bytes_eq}
use Rattle.std.specs.List.{list_all, list_any}
use Rattle.hv_value.specs.declared.catalog.TheConstants.{MAX_PARTITIONS}

-- the tables, each with its number of partitions
abbrev pub Tables : Type 0
Tables = List (List ℕ × ℕ)

-- whether a table has this name
abbrev pub is_table : List ℕ → List ℕ × ℕ → Bool
is_table name table = bytes_eq table.0 name

-- whether no two tables have one name
abbrev pub have_own_tables : Tables → Bool
have_own_tables [] = true
have_own_tables (table ∷ tables) = not (list_any (is_table table.0) tables) && have_own_tables tables

-- whether a table is within the limit of partitions
abbrev pub has_few_parts : List ℕ × ℕ → Bool
has_few_parts table = nat_le table.1 MAX_PARTITIONS

-- whether tables are those of a catalog: names that differ, at most the most partitions each
abbrev pub is_catalog : Tables → Bool
is_catalog tables = have_own_tables tables && list_all has_few_parts tables

-- the number of partitions of the table with a name
abbrev pub parts_named : List ℕ → Tables → Option ℕ
parts_named name tables = option_map (λ table. table.1) (find (is_table name) tables)
