-- The rows of a partition's table: that they make a table, the first of them from a number on, and their cells.
use Rattle.std.proofs.Common.{◌≡◌, ◌≤◌, ◌<◌, ◌+◌, ◌^◌, ◌∷◌, ◌∙◌, [], ℕ, zero, suc, List, Bool, Option, Some, None, true, false, refl, sym, ap, length, map, get_or, take, add-one, arith}
use Rattle.std.specs.Prelude.{nat_le, nat_lt, if◌then◌else◌, option_map, slice_get}
use Rattle.std.specs.List.{AllByRecursion, list_all}
use Rattle.std.proofs.lemmas.Bool.{and_parts, ltb-true}
use Rattle.std.proofs.lemmas.List.{length-map}
use Rattle.std.proofs.lemmas.Option.{get_or_from_slice_get, same_Some}
use Rattle.hv_value.specs.declared.cell.Cell.{Cell}
use Rattle.hv_value.specs.declared.cell.Cell.TheVariants as cell
use Rattle.hv_value.specs.declared.cell.Kind.{Kind}
use Rattle.hv_value.specs.declared.cell.Kind.TheVariants as kind
use Rattle.hv_value.specs.Cells.{cell_at, is_of_kind}
use Rattle.hv_value.specs.Rows.{Row}
use Rattle.hv_value.specs.Schema.{Columns, has_fit_name, have_own_names, is_schema}
use Rattle.hv_value.specs.declared.schema.TheConstants.{MAX_COLUMNS}
use Rattle.hv_value.specs.Table.{AreRowsFrom, IsTable, first_row, have_kinds, onward, row_from}
use Rattle.hv_member.specs.Sets.{IsBelow, IsRising, IsSetBelow, next_from}
use Rattle.hv_column.specs.Column.{AreCells, ColumnCells}
use Rattle.hv_column.specs.Rows.{cells_across, row_across}
use Rattle.hv_part.specs.Part.{Agree, HoldPart, PartRows, rows_at, rows_of}

-- a missing cell may stand in any column
pub missing-is_of_kind : (k : Kind) → is_of_kind k cell.Missing ≡ true
missing-is_of_kind kind.Int = refl
missing-is_of_kind kind.Date = refl
missing-is_of_kind kind.Text = refl

-- so the cell at any place of a column's cells is missing or of its kind
cell_at-is_of_kind : (k : Kind) (cells : List Cell) (place : ℕ) → list_all (is_of_kind k) cells ≡ true → is_of_kind k (cell_at cells place) ≡ true
cell_at-is_of_kind k [] place fit = missing-is_of_kind k
cell_at-is_of_kind k (c ∷ cells) zero fit = (and_parts (is_of_kind k c) (list_all (is_of_kind k) cells) fit).0
cell_at-is_of_kind k (c ∷ cells) (suc place) fit =
    cell_at-is_of_kind k cells place (and_parts (is_of_kind k c) (list_all (is_of_kind k) cells) fit).1

-- the cells side by side are of the columns' kinds
pub cells_across-kinds : (columns : Columns) (cols : List ColumnCells) (number : ℕ)
    → map (λ (column : ColumnCells). column.kind) cols ≡ map (λ column. column.1) columns → AllByRecursion AreCells cols
    → have_kinds columns (cells_across cols number) ≡ true
cells_across-kinds [] [] number kinds cells = refl
cells_across-kinds [] (column ∷ cols) number kinds cells = absurd (cc)
cells_across-kinds (first ∷ columns) [] number kinds cells = absurd (cc)
cells_across-kinds (first ∷ columns) (column ∷ cols) number kinds cells =
    let same : column.kind ≡ first.1 = cc in
    let rest : map (λ (c : ColumnCells). c.kind) cols ≡ map (λ c. c.1) columns = cc in
    let here : is_of_kind first.1 (cell_at column.cells number) ≡ true =
    rw (← same) (cell_at-is_of_kind column.kind column.cells number cells.0.fit) in
    rw here (cells_across-kinds columns cols number rest cells.1)

-- rows whose numbers rise from a number on, below a size, are rows of a table
rows_at-are : (table : PartRows) (from : ℕ) (numbers : List ℕ) → HoldPart table → AllByRecursion (λ n. from ≤ n) numbers
    → IsRising numbers → IsBelow table.member.size numbers → AreRowsFrom table.columns table.part from (rows_at table.part table.cols numbers)
rows_at-are table from [] hold least rising below = tt
rows_at-are table from (n ∷ numbers) hold least rising below = (
  record {
    tagged = refl;
    at_least = least.0;
    below = let small : n < table.member.size = below.0 in omega (arith, hold.few);
    kinds = cells_across-kinds table.columns table.cols n hold.agree.kinds hold.cells;
  },
  rows_at-are table (n + 1) numbers hold (above numbers rising.0) rising.1 below.1,
)
  where
    above : (more : List ℕ) → AllByRecursion (λ y. n < y) more → AllByRecursion (λ y. n + 1 ≤ y) more
    above [] h = tt
    above (y ∷ ys) h = (let up : n < y = h.0 in omega arith, above ys h.1)

all_from_0 : (numbers : List ℕ) → AllByRecursion (λ n. 0 ≤ n) numbers
all_from_0 [] = tt
all_from_0 (n ∷ numbers) = (omega arith, all_from_0 numbers)

-- the rows of a partition's table make a table
pub rows_of-IsTable : (table : PartRows) → HoldPart table → IsTable table.columns table.part (rows_of table)
rows_of-IsTable table hold = rows_at-are table 0 table.member.rows hold (all_from_0 table.member.rows) hold.member.rising hold.member.below

-- the first row from a number on is that of the first number
pub row_from-rows_at : (part : ℕ) (cols : List ColumnCells) (from : ℕ) (numbers : List ℕ)
    → row_from from (rows_at part cols numbers) ≡ option_map (row_across part cols) (next_from from numbers)
row_from-rows_at part cols from [] = refl
row_from-rows_at part cols from (n ∷ numbers) = by (nat_le from n) (row_from-rows_at part cols from numbers)
  where
    by : (b : Bool) → row_from from (rows_at part cols numbers) ≡ option_map (row_across part cols) (next_from from numbers)
        → first_row (if b then row_across part cols n ∷ rows_at part cols numbers else onward from (rows_at part cols numbers))
        ≡ option_map (row_across part cols) (if b then Some n else next_from from numbers)
    by true more = refl
    by false more = more

-- so its number is the first number
pub next-rows_of : (table : PartRows) (from : ℕ)
    → next_from from table.member.rows ≡ option_map (λ row. row.number) (row_from from (rows_of table))
next-rows_of table from = rw (row_from-rows_at table.part table.cols from table.member.rows) (same (next_from from table.member.rows))
  where
    same : (o : Option ℕ) → o ≡ option_map (λ row. row.number) (option_map (row_across table.part table.cols) o)
    same None = refl
    same (Some n) = refl

-- a number that is found is below the size
found-below : (size from n : ℕ) (numbers : List ℕ) → IsBelow size numbers → next_from from numbers ≡ Some n → n < size
found-below size from n [] below found = absurd (cc found)
found-below size from n (first ∷ numbers) below found = by (nat_le from first) (found-below size from n numbers below.1) found
  where
    by : (b : Bool) → (next_from from numbers ≡ Some n → n < size) → (if b then Some first else next_from from numbers) ≡ Some n → n < size
    by true rest is = let same : first ≡ n = cc is in let small : first < size = below.0 in omega arith
    by false rest is = rest is

-- each column has the cells of a row that is there
pub there-below : (table : PartRows) (row : ℕ) → HoldPart table
    → option_map (λ found. found.number) (row_from row (rows_of table)) ≡ Some row → row < table.member.size
there-below table row hold there =
    found-below table.member.size row row table.member.rows hold.member.below (next-rows_of table row ∙ there)

-- a column at a place has as many cells as there are numbers
pub long-at : (size : ℕ) (cols : List ColumnCells) (col : ℕ) (column : ColumnCells) → AllByRecursion (λ c. length c.cells ≡ size) cols
    → slice_get cols col ≡ Some column → length column.cells ≡ size
long-at size [] col column long at = absurd (cc at)
long-at size (first ∷ cols) zero column long at = let same : first ≡ column = cc at in rw (← same) long.0
long-at size (first ∷ cols) (suc col) column long at = long-at size cols col column long.1 at

-- the cell of a row at a column's place is that column's at the row's number
pub cells_across-at : (cols : List ColumnCells) (row col : ℕ) (column : ColumnCells) → slice_get cols col ≡ Some column
    → cell_at (cells_across cols row) col ≡ cell_at column.cells row
cells_across-at [] row col column at = absurd (cc at)
cells_across-at (first ∷ cols) row zero column at = let same : first ≡ column = cc at in ap (λ (c : ColumnCells). cell_at c.cells row) same
cells_across-at (first ∷ cols) row (suc col) column at = cells_across-at cols row col column at

-- the cell that is read of a row that is there
pub cell-there : (table : PartRows) (row col : ℕ) (column : ColumnCells) (read : Cell) (found : Row) → HoldPart table
    → option_map (λ r. r.number) (row_from row (rows_of table)) ≡ Some row → slice_get table.cols col ≡ Some column
    → slice_get column.cells row ≡ Some read → row_from row (rows_of table) ≡ Some found → read ≡ cell_at found.cells col
cell-there table row col column read found hold number at_col at_row is =
    let first : next_from row table.member.rows ≡ Some row = next-rows_of table row ∙ number in
    let here : row_from row (rows_of table) ≡ Some (row_across table.part table.cols row) =
    row_from-rows_at table.part table.cols row table.member.rows ∙ ap (option_map (row_across table.part table.cols)) first in
    let same : row_across table.part table.cols row ≡ found = same_Some _ found (sym here ∙ is) in
    let value : cell_at column.cells row ≡ read = get_or_from_slice_get column.cells row read cell.Missing at_row in
    sym value ∙ sym (cells_across-at table.cols row col column at_col) ∙ ap (λ (r : Row). cell_at r.cells col) same

-- there is one column for each of the schema's
pub wide : (table : PartRows) → HoldPart table → length table.cols ≡ length table.columns
wide table hold =
    sym (length-map table.cols (λ (c : ColumnCells). c.kind)) ∙ ap (λ (ks : List Kind). length ks) hold.agree.kinds ∙ length-map table.columns (λ c. c.1)

-- what is made of an element at a place stands at that place
pub made-at : {X Y : Type 0} (f : X → Y) (xs : List X) (k : ℕ) (x : X) → k < length xs → x ≡ get_or xs k x → slice_get (map f xs) k ≡ Some (f x)
made-at f [] k x within at = absurd (omega (arith, within))
made-at f (y ∷ xs) zero x within at = ap (λ z. Some (f z)) (sym at)
made-at f (y ∷ xs) (suc k) x within at = made-at f xs k x (omega (arith, within)) at

-- what holds of what is made of all elements before a place, and of the one there, holds of one more
pub made-next : {X Y : Type 0} (P : Y → Type 0) (f : X → Y) (xs : List X) (k : ℕ) (x : X) → k < length xs → x ≡ get_or xs k x
    → AllByRecursion P (map f (take k xs)) → P (f x) → AllByRecursion P (map f (take (k + 1) xs))
made-next P f [] k x within at before here = absurd (omega (arith, within))
made-next P f (y ∷ xs) zero x within at before here = (rw (← at) here, tt)
made-next P f (y ∷ xs) (suc k) x within at before here =
    rw add-one (before.0, rw add-one at (made-next P f xs k x (omega (arith, within)) at before.1 here))

-- the column at a place below the number of the schema's columns
pub column-at : {X : Type 0} (f : X → ColumnCells) (items : List X) (table : PartRows) (col : ℕ) (x : X) → HoldPart table → table.cols ≡ map f items
    → col < length table.columns → x ≡ get_or items col x → slice_get table.cols col ≡ Some (f x)
column-at f items table col x hold same within at =
    let all : length table.cols ≡ length items = ap (λ (cs : List ColumnCells). length cs) same ∙ length-map items f in
    let below : col < length items = omega (arith, all, wide table hold, within) in
    rw same (made-at f items col x below at)

-- a schema has a column
pub some_column : (columns : Columns) → is_schema columns ≡ true → 0 < length columns
some_column columns schema =
    let parts = and_parts _ (have_own_names columns) schema in
    let sized = and_parts _ (list_all has_fit_name columns) parts.0 in
    let both = and_parts (nat_lt 0 (length columns)) (nat_le (length columns) MAX_COLUMNS) sized.0 in
    ltb-true 0 (length columns) both.0

-- columns of a schema's kinds with so many cells hold a table of their rows that a set has
pub new-holds : (table : PartRows) → is_schema table.columns ≡ true → Agree table.columns table.cols table.member.size
    → AllByRecursion AreCells table.cols → IsSetBelow table.member.size table.member.rows → HoldPart table
new-holds table schema agree cells member = record {
  schema = schema;
  agree = agree;
  cells = cells;
  member = member;
  few = first table.cols (omega (arith, some_column table.columns schema, same)) agree.lengths cells;
}
  where
    same : length table.cols ≡ length table.columns
    same =
        sym (length-map table.cols (λ (c : ColumnCells). c.kind)) ∙ ap (λ (ks : List Kind). length ks) agree.kinds ∙ length-map table.columns (λ c. c.1)

    first : (cols : List ColumnCells) → 0 < length cols → AllByRecursion (λ (c : ColumnCells). length c.cells ≡ table.member.size) cols
        → AllByRecursion AreCells cols → table.member.size ≤ 2 ^ 26
    first [] some lengths all = absurd (omega (arith, some))
    first (column ∷ cols) some lengths all = let here : length column.cells ≡ table.member.size = lengths.0 in omega (arith, all.0.few, here)

-- a table has a column
pub some-cols : (table : PartRows) → HoldPart table → 0 < length table.cols
some-cols table hold = omega (arith, some_column table.columns hold.schema, wide table hold)
