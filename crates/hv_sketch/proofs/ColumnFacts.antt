-- The cells of a column over a list of rows, and of a row of a table.
use Rattle.std.proofs.Common.{◌≡◌, ◌<◌, ◌++◌, ◌∙◌, ap, ℕ, List, [], Some, true, get_or, length}
use Rattle.std.specs.Prelude.{⊤, option_map}
use Rattle.std.proofs.lemmas.Option.{slice_get-get_or}
use Rattle.std.proofs.lemmas.List.{length-map, map-append}
use Rattle.hv_value.specs.declared.cell.Kind.{Kind}
use Rattle.hv_value.specs.declared.cell.Kind.TheVariants as kind
use Rattle.hv_value.specs.Cells.{cell_at, is_of_kind}
use Rattle.hv_value.specs.Rows.{Row}
use Rattle.hv_value.specs.Schema.{Columns}
use Rattle.hv_value.specs.Table.{IsTable, row_from}
use Rattle.hv_value.proofs.TableFacts.{is_next, kind_of_cell}
use Rattle.hv_sketch.specs.ColumnCells.{cells_in}
use Rattle.hv_sketch.specs.Columns.{IsColumnOf, TakesCell, TakesColumn}

-- the cells of joined lists are the joined cells
pub cells-append : (col : ℕ) (a b : List Row) → cells_in col (a ++ b) ≡ cells_in col a ++ cells_in col b
cells-append col a b = map-append (λ row. cell_at row.cells col) a b

pub cells-three : (col : ℕ) (a b c : List Row) → cells_in col (a ++ b ++ c) ≡ cells_in col a ++ cells_in col b ++ cells_in col c
cells-three col a b c = cells-append col (a ++ b) c ∙ ap (λ l. l ++ cells_in col c) (cells-append col a b)

-- there is one for each row
pub length-cells : (col : ℕ) (rows : List Row) → length (cells_in col rows) ≡ length rows
length-cells col rows = length-map rows (λ row. cell_at row.cells col)

-- a column that is there is of some kind
pub any_column : (columns : Columns) (col : ℕ) → col < length columns → TakesColumn (λ kind. ⊤) columns col
any_column columns col within =
    let none : List ℕ × Kind = ([], kind.Int) in
    ((get_or columns col none).1, ap (option_map (λ column. column.1)) (slice_get-get_or columns col none within), tt)

-- the cell of a row that is found is missing or of the column's kind
pub row_kind : (columns : Columns) (part from col : ℕ) (kind : Kind) (rows : List Row) (found : Row) → IsTable columns part rows
    → IsColumnOf columns col kind → row_from from rows ≡ Some found → is_of_kind kind (cell_at found.cells col) ≡ true
row_kind columns part from col kind rows found table there is =
    kind_of_cell columns found.cells col kind (is_next columns part 0 from rows found table is).row.kinds there

-- so it is taken where its column is
pub cell_taken : (takes : Kind → Type 0) (columns : Columns) (part from col : ℕ) (rows : List Row) (found : Row) → IsTable columns part rows
    → TakesColumn takes columns col → row_from from rows ≡ Some found → TakesCell takes (cell_at found.cells col)
cell_taken takes columns part from col rows found table there is =
    (there.0, there.2, row_kind columns part from col there.0 rows found table there.1 is)
