-- A schema: the names and kinds of a table's columns, in order.
use Rattle.std.specs.Prelude.{ℕ, List, [], ◌∷◌, length, Bool, true, not, ◌&&◌, nat_lt, nat_le, Option, position, bytes_eq, codes}
use Rattle.std.specs.List.{list_all, list_any}
use Rattle.hv_value.specs.declared.cell.Kind.{Kind}
use Rattle.hv_value.specs.declared.schema.SchemaErr.{SchemaErr}
use Rattle.hv_value.specs.declared.schema.SchemaErr.TheVariants.{BadSchema, Memory}
use Rattle.hv_value.specs.declared.schema.TheConstants.{MAX_COLUMNS, MAX_NAME_BYTES}

-- the columns, each with its name's bytes and its kind
abbrev pub Columns : Type 0
Columns = List (List ℕ × Kind)

-- whether a column has this name
abbrev pub is_named : List ℕ → List ℕ × Kind → Bool
is_named name column = bytes_eq column.0 name

-- whether a name isn't empty and within its limit
abbrev pub has_fit_name : List ℕ × Kind → Bool
has_fit_name column = nat_lt 0 (length column.0) && nat_le (length column.0) MAX_NAME_BYTES

-- whether no two columns have one name
abbrev pub have_own_names : Columns → Bool
have_own_names [] = true
have_own_names (column ∷ columns) = not (list_any (is_named column.0) columns) && have_own_names columns

-- whether columns are those of a schema: one to the most, with fit names that differ
abbrev pub is_schema : Columns → Bool
is_schema columns = nat_lt 0 (length columns) && nat_le (length columns) MAX_COLUMNS && list_all has_fit_name columns && have_own_names columns

-- the place of the column with a name
abbrev pub column_place : List ℕ → Columns → Option ℕ
column_place name columns = position (is_named name) columns

-- what an error says
abbrev pub schema_err_text : SchemaErr → List ℕ
schema_err_text BadSchema = codes "the columns make no schema"
schema_err_text Memory = codes "out of memory"
