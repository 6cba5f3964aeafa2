-- What a term makes of the rows of a base, by cases on the term: this project's own rule, after the lineages of the
-- Hillview paper. It looks at one base row at a time.
use Rattle.std.specs.Prelude.{ℕ, List, [], ◌∷◌, ◌++◌, map, slice_get, Bool, Option, Some, None, is_some, option_map, option_and_then, if◌then◌else◌}
use Rattle.std.specs.List.{filter_map}
use Rattle.std.specs.Option.{option_or}
use Rattle.hv_value.specs.declared.cell.Cell.{Cell}
use Rattle.hv_value.specs.declared.cell.Kind.{Kind}
use Rattle.hv_value.specs.Rows.{Row}
use Rattle.hv_value.specs.Schema.{Columns, column_place}
use Rattle.hv_pick.specs.Word.{is_picked}
use Rattle.hv_expr.specs.Checks.{kind_of}
use Rattle.hv_expr.specs.Holds.{holds}
use Rattle.hv_expr.specs.Values.{cell_named, val}
use Rattle.hv_lineage.specs.declared.how.How2.{How2}
use Rattle.hv_lineage.specs.declared.how.How2.TheVariants as how2
use Rattle.hv_lineage.specs.declared.term.Term.{Term, fold-Term}
use Rattle.hv_lineage.specs.declared.term.Term.TheOpen.{Term-F}

-- the column with a name, none where there is no such column
abbrev pub column_named : Columns → List ℕ → Option (List ℕ × Kind)
column_named columns name = option_and_then (slice_get columns) (column_place name columns)

-- the named columns, in the order of the names
abbrev pub picked : Columns → List (List ℕ) → Columns
picked columns names = filter_map (column_named columns) names

-- the cells of the named columns, in the order of the names
abbrev pub picked_cells : Columns → List (List ℕ) → List Cell → List Cell
picked_cells columns names cells = map (cell_named columns cells) names

-- the columns and at their end one of a kind, where there is a kind
abbrev pub with_column : Columns → List ℕ → Option Kind → Columns
with_column columns name None = columns
with_column columns name (Some k) = columns ++ (name, k) ∷ []

-- the cells where they pass, none where they don't
abbrev pub where_passing : (List Cell → Bool) → List Cell → Option (List Cell)
where_passing passes cells = if passes cells then Some cells else None

-- a row's cells where it is picked at a threshold, none where it isn't: its tag alone decides
abbrev pub where_picked : ℕ → ℕ → Row → List Cell → Option (List Cell)
where_picked seed threshold row cells = if is_picked seed threshold row.part row.number then Some cells else None

-- the columns of two terms combined: of both where they are zipped, else those of the left
abbrev pub columns_by : How2 → Columns → Columns → Columns
columns_by how2.Zip left right = left ++ right
columns_by how2.Union left right = left
columns_by how2.Both left right = left
columns_by how2.Minus left right = left

-- the cells of a row that two terms have, combined: those of both where they are zipped, else the left's where the left
-- has any
abbrev pub cells_by : How2 → Option (List Cell) → Option (List Cell) → Option (List Cell)
cells_by how2.Zip left right = option_and_then (λ x. option_map (λ y. x ++ y) right) left
cells_by how2.Union left right = option_or left right
cells_by how2.Both left right = option_and_then (λ y. left) right
cells_by how2.Minus left right = if is_some right then None else left

-- what a term makes of a base: the columns, and of each base row its cells, none where the row isn't there
pub record Made : Type 0 where
  pub columns : Columns
  pub cells : Row → Option (List Cell)

-- what a node makes of what its inner terms make, over the columns of the base
abbrev pub node_made : Columns → Term-F Made → Made
node_made base Term-F.Base = record { columns = base; cells = λ row. Some row.cells }
node_made base (Term-F.Filter of pred) = record {
  columns = of.columns;
  cells = λ row. option_and_then (where_passing (λ cells. holds of.columns cells pred)) (of.cells row);
}
node_made base (Term-F.Project of cols) = record {
  columns = picked of.columns cols;
  cells = λ row. option_map (picked_cells of.columns cols) (of.cells row);
}
node_made base (Term-F.Derive of name expr) = record {
  columns = with_column of.columns name (kind_of of.columns expr);
  cells = λ row. option_map (λ cells. cells ++ val of.columns cells expr ∷ []) (of.cells row);
}
node_made base (Term-F.Sample of seed threshold) = record {
  columns = of.columns;
  cells = λ row. option_and_then (where_picked seed threshold row) (of.cells row);
}
node_made base (Term-F.Combine how left right) = record {
  columns = columns_by how left.columns right.columns;
  cells = λ row. cells_by how (left.cells row) (right.cells row);
}

-- what a term makes of a base with these columns
unfoldable pub made_of : Columns → Term → Made
made_of base = fold-Term Made (node_made base)

-- the columns of a term over a base with these columns
abbrev pub columns_of : Columns → Term → Columns
columns_of base term = (made_of base term).columns

-- a base row under a term: its tag, and the cells that the term makes of it, none where it isn't there
abbrev pub row_of : Columns → Term → Row → Option Row
row_of base term row = option_map (λ cells. record row { cells = cells }) ((made_of base term).cells row)
