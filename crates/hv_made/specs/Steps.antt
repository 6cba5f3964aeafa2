-- The table of one partition of a lineage, and what each step makes of a table: this project's own rule.
use Rattle.std.specs.Prelude.{ℕ, ◌≡◌, List, [], ◌∷◌, ◌++◌, length, map, slice_get, Bool, true, false, Option, Some, None, option_and_then, if◌then◌else◌}
use Rattle.std.specs.List.{AllByRecursion, filter, filter_map}
use Rattle.hv_value.specs.declared.cell.Cell.{Cell}
use Rattle.hv_value.specs.declared.cell.Cell.TheVariants as cell
use Rattle.hv_value.specs.Cells.{cell_at}
use Rattle.hv_value.specs.Rows.{Row}
use Rattle.hv_value.specs.Schema.{Columns, column_place}
use Rattle.hv_pick.specs.Word.{is_picked}
use Rattle.hv_member.specs.Sets.{is_in}
use Rattle.hv_column.specs.Column.{ColumnCells}
use Rattle.hv_column.specs.Rows.{cells_across}
use Rattle.hv_part.specs.Part.{PartRows, rows_of}
use Rattle.hv_expr.specs.declared.expr.Expr.{Expr}
use Rattle.hv_expr.specs.declared.pred.Pred.{Pred}
use Rattle.hv_expr.specs.Checks.{kind_of}
use Rattle.hv_expr.specs.Holds.{holds}
use Rattle.hv_expr.specs.Values.{val}
use Rattle.hv_lineage.specs.declared.how.How2.{How2}
use Rattle.hv_lineage.specs.declared.term.Term.{Term}
use Rattle.hv_lineage.specs.Made.{cells_by, columns_by, columns_of, made_of, picked, with_column}

-- the table has these columns and exactly these rows of this partition
pub record IsTableOf (columns : Columns) (part : ℕ) (rows : List Row) (table : PartRows) : Type 0 where
  pub columns_are : table.columns ≡ columns
  pub part_is : table.part ≡ part
  pub rows_are : rows_of table ≡ rows

-- the cells of the row of a number, none where the row isn't there
abbrev pub cells_in : PartRows → ℕ → Option (List Cell)
cells_in table n = if is_in n table.member.rows then Some (cells_across table.cols n) else None

-- the cells that a term makes of those of a base row, by the row's number, none where the row isn't there any more
abbrev pub cells_under : Term → PartRows → ℕ → List Cell → Option (List Cell)
cells_under term base n cells = (made_of base.columns term).cells (record { part = base.part; number = n; cells = cells })

-- the table is what a term makes of a base's table, row by row, of as many numbers
pub record IsMadeOf (term : Term) (base made : PartRows) : Type 0 where
  pub columns_are : made.columns ≡ columns_of base.columns term
  pub part_is : made.part ≡ base.part
  pub height_is : made.member.size ≡ base.member.size
  pub cells_are : (n : ℕ) → cells_in made n ≡ option_and_then (cells_under term base n) (cells_in base n)

-- the numbers of the rows of which a predicate holds, of those in the table
abbrev pub passing : Pred → PartRows → List ℕ
passing pred table = filter (λ n. holds table.columns (cells_across table.cols n) pred) table.member.rows

-- the numbers of the rows that are picked by a seed at a threshold, of those in the table
abbrev pub picked_rows : ℕ → ℕ → PartRows → List ℕ
picked_rows seed threshold table = filter (λ n. is_picked seed threshold table.part n) table.member.rows

-- the table with these rows of its columns
abbrev pub with_rows : PartRows → List ℕ → PartRows
with_rows table rows = record table { member = record table.member { rows = rows } }

-- the column's cells with a name, none where there is no such column
abbrev pub col_named : Columns → List ColumnCells → List ℕ → Option ColumnCells
col_named columns cols name = option_and_then (slice_get cols) (column_place name columns)

-- the columns' cells of the names, in their order
abbrev pub picked_cols : Columns → List ColumnCells → List (List ℕ) → List ColumnCells
picked_cols columns cols names = filter_map (col_named columns cols) names

-- the table with the named columns alone
abbrev pub with_picked : PartRows → List (List ℕ) → PartRows
with_picked table names = record table { columns = picked table.columns names; cols = picked_cols table.columns table.cols names }

-- the table has the named columns alone, of a table with one column for each of its schema's
pub record IsPicked (table : PartRows) (names : List (List ℕ)) (made : PartRows) : Type 0 where
  pub wide : length table.cols ≡ length table.columns
  pub same : made ≡ with_picked table names

-- the value of an expression in the row of a number, missing where the row isn't there
abbrev pub value_in : PartRows → Expr → ℕ → Cell
value_in table expr n = if is_in n table.member.rows then val table.columns (cells_across table.cols n) expr else cell.Missing

-- a column has in each row that is there the expression's value of that row
abbrev pub HasValues : PartRows → Expr → ColumnCells → Type 0
HasValues table expr column =
    (n : ℕ) → is_in n table.member.rows ≡ true → cell_at column.cells n ≡ val table.columns (cells_across table.cols n) expr

-- the table with one more column of a name, which has the expression's values
pub record IsDerived (table : PartRows) (name : List ℕ) (expr : Expr) (made : PartRows) : Type 0 where
  pub column : ColumnCells
  pub values : HasValues table expr column
  pub is : made ≡ record table { columns = with_column table.columns name (kind_of table.columns expr); cols = table.cols ++ column ∷ [] }

-- the cell of a row of two columns: the left's, or the right's, or a missing one
abbrev pub chosen_cell : ColumnCells → ColumnCells → ℕ → Bool → Bool → Cell
chosen_cell left right n is_left is_right = if is_left then cell_at left.cells n else if is_right then cell_at right.cells n else cell.Missing

-- a column has a left one's cells in the rows that are held, and a right one's in those that the right alone has
pub record IsUnited (left right : ColumnCells) (held alone : List ℕ) (made : ColumnCells) : Type 0 where
  pub kind_is : made.kind ≡ left.kind
  pub length_is : length made.cells ≡ length left.cells
  pub held_are : (n : ℕ) → is_in n held ≡ true → cell_at made.cells n ≡ cell_at left.cells n
  pub alone_are : (n : ℕ) → is_in n held ≡ false → is_in n alone ≡ true → cell_at made.cells n ≡ cell_at right.cells n

-- the same of columns side by side, each with so many cells
pub record AreUnited (lefts rights : List ColumnCells) (held alone : List ℕ) (size : ℕ) (made : List ColumnCells) : Type 0 where
  pub kinds : map (λ (column : ColumnCells). column.kind) made ≡ map (λ column. column.kind) lefts
  pub lengths : AllByRecursion (λ (column : ColumnCells). length column.cells ≡ size) made
  pub held_are : (n : ℕ) → is_in n held ≡ true → cells_across made n ≡ cells_across lefts n
  pub alone_are : (n : ℕ) → is_in n held ≡ false → is_in n alone ≡ true → cells_across made n ≡ cells_across rights n

-- the table is that of two tables of one partition combined, row by row
pub record IsCombined (how : How2) (left right made : PartRows) : Type 0 where
  pub columns_are : made.columns ≡ columns_by how left.columns right.columns
  pub part_is : made.part ≡ left.part
  pub height_is : made.member.size ≡ left.member.size
  pub cells_are : (n : ℕ) → cells_in made n ≡ cells_by how (cells_in left n) (cells_in right n)
