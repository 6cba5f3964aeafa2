-- The value of an expression over the cells of a row: this project's own rule.
use Rattle.std.specs.Prelude.{ℕ, ℤ, pos, ◌+ℤ◌, ◌*ℤ◌, List, ◌++◌, length, Option, Some, None, if◌then◌else◌}
use Rattle.hv_value.specs.declared.cell.Cell.{Cell}
use Rattle.hv_value.specs.declared.cell.Cell.TheVariants as cell
use Rattle.hv_value.specs.Cells.{cell_at}
use Rattle.hv_value.specs.Days.{is_day_number}
use Rattle.hv_value.specs.Number.{fitting_i64}
use Rattle.hv_value.specs.Rows.{int_cell}
use Rattle.hv_value.specs.Schema.{Columns, column_place}
use Rattle.hv_expr.specs.declared.expr.Expr.{Expr, fold-Expr}
use Rattle.hv_expr.specs.declared.expr.Expr.TheOpen.{Expr-F}
use Rattle.hv_value.specs.Civil.{year_of, month_of, day_of}

-- the cell at a place, missing where there is none
abbrev pub cell_at_place : List Cell → Option ℕ → Cell
cell_at_place cells None = cell.Missing
cell_at_place cells (Some place) = cell_at cells place

-- the cell of the column with a name, missing where there is no such column
abbrev pub cell_named : Columns → List Cell → List ℕ → Cell
cell_named columns cells name = cell_at_place cells (column_place name columns)

-- a number of a day, missing where the cell is none or its number is no day number
abbrev pub day_part : (ℤ → ℤ) → Cell → Cell
day_part number (cell.Date day) = if is_day_number day then cell.Int (number day) else cell.Missing
day_part number _ = cell.Missing

-- the number of a text's bytes, missing where the cell is no text
abbrev pub length_cell : Cell → Cell
length_cell (cell.Text text) = cell.Int (pos (length text))
length_cell _ = cell.Missing

-- a * x + b, missing where the cell is no number x or the sum isn't one of an i64
abbrev pub linear_cell : ℤ → ℤ → Cell → Cell
linear_cell a b (cell.Int x) = int_cell (fitting_i64 (a *ℤ x +ℤ b))
linear_cell a b _ = cell.Missing

-- two texts with one between them, missing where one of the cells is no text
abbrev pub join_cells : Cell → List ℕ → Cell → Cell
join_cells (cell.Text left) between (cell.Text right) = cell.Text (left ++ (between ++ right))
join_cells _ between _ = cell.Missing

-- the value of a node, of its operands' values
abbrev pub node_val : Columns → List Cell → Expr-F Cell → Cell
node_val columns cells (Expr-F.Col name) = cell_named columns cells name
node_val columns cells (Expr-F.Year of) = day_part (λ day. pos (year_of day)) of
node_val columns cells (Expr-F.Month of) = day_part (λ day. pos (month_of day)) of
node_val columns cells (Expr-F.Day of) = day_part day_of of
node_val columns cells (Expr-F.Length of) = length_cell of
node_val columns cells (Expr-F.Linear a b of) = linear_cell a b of
node_val columns cells (Expr-F.Join left between right) = join_cells left between right

-- the value of an expression over the cells of the columns
unfoldable pub val : Columns → List Cell → Expr → Cell
val columns cells = fold-Expr Cell (node_val columns cells)
