-- The rows of a lineage over some of its partitions, as one list. The contents of named tables are what a world tells
-- of them: for a table's name and a partition its bytes, none where it doesn't tell them. This project's own rule.
use Rattle.std.specs.Prelude.{ℕ, ◌≡◌, ◌≤◌, ◌^◌, List, [], ◌∷◌, ◌++◌, true, ◌==◌, get_or, Option, Some, option_map, option_and_then, MatchOption}
use Rattle.std.specs.List.{AllByRecursion, count_by, filter_map}
use Rattle.hv_value.specs.Rows.{Row, base_rows}
use Rattle.hv_value.specs.Schema.{Columns}
use Rattle.hv_value.specs.Table.{have_kinds}
use Rattle.hv_member.specs.Sets.{is_in, numbers}
use Rattle.hv_lineage.specs.declared.base.Base.{Base}
use Rattle.hv_lineage.specs.declared.base.Base.TheVariants as base
use Rattle.hv_lineage.specs.Bases.{base_columns}
use Rattle.hv_lineage.specs.Lineages.{TermOver, lineage_columns, lineage_parts}
use Rattle.hv_lineage.specs.Made.{row_of}

-- what is told of the contents of named tables
abbrev pub Told : Type 0
Told = List ℕ → ℕ → Option (List ℕ)

-- the bytes of a partition of a base, none where they aren't told
abbrev pub part_bytes : Told → Base → ℕ → Option (List ℕ)
part_bytes told (base.Inline schema parts) part = Some (get_or parts part [])
part_bytes told (base.Named schema table parts) part = told table part

-- the rows of a partition of a base, rising, none where its bytes aren't told
abbrev pub rows_of_part : Told → Base → ℕ → Option (List Row)
rows_of_part told b part = option_map (base_rows (base_columns b) part) (part_bytes told b part)

-- the rows of a lineage among base rows, in their order
abbrev pub rows_under : TermOver → List Row → List Row
rows_under lineage rows = filter_map (row_of (base_columns lineage.base) lineage.term) rows

-- the rows of a lineage in a partition, rising
abbrev pub part_rows : Told → TermOver → ℕ → Option (List Row)
part_rows told lineage part = option_map (rows_under lineage) (rows_of_part told lineage.base part)

-- two lists one after the other, where both are there
abbrev pub append_told : Option (List Row) → Option (List Row) → Option (List Row)
append_told first rest = option_and_then (λ xs. option_map (λ ys. xs ++ ys) rest) first

-- the rows of a lineage in some of its partitions, in the order of these and rising in each; none where contents that
-- it needs aren't told
abbrev pub flat_rows : Told → TermOver → List ℕ → Option (List Row)
flat_rows told lineage [] = Some []
flat_rows told lineage (part ∷ parts) = append_told (part_rows told lineage part) (flat_rows told lineage parts)

-- the rows of a lineage in all its partitions
abbrev pub whole_rows : Told → TermOver → Option (List Row)
whole_rows told lineage = flat_rows told lineage (numbers (lineage_parts lineage))

-- some rows of these partitions: at most 2^26 of each, each cell missing or of its column's kind
pub record AreRowsIn (columns : Columns) (parts : List ℕ) (rows : List Row) : Type 0 where
  pub tagged : AllByRecursion (λ (row : Row). is_in row.part parts ≡ true) rows
  pub kinds : AllByRecursion (λ (row : Row). have_kinds columns row.cells ≡ true) rows
  pub few : (part : ℕ) → count_by (λ (row : Row). row.part == part) rows ≤ 2 ^ 26

-- the rows are those of the lineage in these partitions, where the contents that it needs are told, and some rows of
-- these partitions where they aren't
abbrev pub AreFlat : Told → TermOver → List ℕ → List Row → Type 0
AreFlat told lineage parts rows = MatchOption (flat_rows told lineage parts) (AreRowsIn (lineage_columns lineage) parts rows) (λ flat. rows ≡ flat)
