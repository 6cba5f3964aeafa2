-- Columns chosen by name, side by side.
use Rattle.std.proofs.Common.{◌≡◌, ◌<◌, ◌∙◌, ◌++◌, ◌∷◌, ◌+◌, [], ℕ, zero, suc, List, Bool, true, false, Option, Some, None, Ok, inl, inr, refl, ap, map, get_or, take, length, arith, add-one}
use Rattle.std.specs.Prelude.{if◌then◌else◌, is_some, not, slice_get}
use Rattle.std.specs.List.{AllByRecursion, cons_option, filter_map, list_all}
use Rattle.std.proofs.lemmas.Bool.{and_parts, cases_lt}
use Rattle.std.proofs.lemmas.List.Quantifiers.{position-Some}
use Rattle.std.proofs.lemmas.Option.{slice_get-get_or, slice_get_within}
use Rattle.hv_value.specs.declared.cell.Cell.{Cell}
use Rattle.hv_value.specs.declared.cell.Kind.{Kind}
use Rattle.hv_value.specs.declared.cell.Kind.TheVariants as kind
use Rattle.hv_value.specs.declared.cell.Cell.TheVariants as cell
use Rattle.hv_value.specs.Cells.{cell_at, is_of_kind}
use Rattle.hv_value.specs.Table.{have_kinds}
use Rattle.hv_member.specs.Sets.{is_in}
use Rattle.hv_value.specs.Schema.{Columns, column_place, is_named, is_schema}
use Rattle.hv_column.specs.Column.{ColumnCells}
use Rattle.hv_column.specs.Rows.{cells_across}
use Rattle.hv_expr.specs.declared.expr.Expr.{Expr}
use Rattle.hv_expr.specs.Checks.{checked_expr, expr_fault, kind_of}
use Rattle.hv_expr.specs.Values.{val}
use Rattle.hv_expr.proofs.ValueKinds.{val-is_of_kind}
use Rattle.hv_part.specs.Part.{Agree, HoldPart, PartRows}
use Rattle.hv_part.proofs.RowsThere.{cells_across-at, cells_across-kinds, missing-is_of_kind}
use Rattle.hv_lineage.specs.declared.error.LineageErr.TheVariants as err
use Rattle.hv_lineage.specs.Made.{picked, picked_cells}
use Rattle.hv_lineage.specs.Refusals.{choice_refusal, has_column}
use Rattle.hv_made.specs.Steps.{picked_cols, value_in}

-- a column with a name, beside its cells
pub record Found (columns : Columns) (cols : List ColumnCells) (name : List ℕ) : Type 0 where
  pub place : ℕ
  pub column : List ℕ × Kind
  pub cells : ColumnCells
  pub at : column_place name columns ≡ Some place
  pub column_at : slice_get columns place ≡ Some column
  pub cells_at : slice_get cols place ≡ Some cells

pub found : (columns : Columns) (cols : List ColumnCells) (name : List ℕ) → length cols ≡ length columns → has_column columns name ≡ true
    → Found columns cols name
found columns cols name wide there = by (column_place name columns) refl there
  where
    at : (place : ℕ) → column_place name columns ≡ Some place → (c : Option (List ℕ × Kind)) → slice_get columns place ≡ c
        → (k : Option ColumnCells) → slice_get cols place ≡ k → Found columns cols name
    at place is (Some column) column_is (Some cells) cells_is =
        record { place = place; column = column; cells = cells; at = is; column_at = column_is; cells_at = cells_is }
    at place is None column_is k cells_is =
        let none : List ℕ × Kind = (name, kind.Int) in
        let within : place < length columns = (position-Some (is_named name) columns place none is).0 in
        absurd (cc (slice_get-get_or columns place none within, column_is))
    at place is (Some column) column_is None cells_is =
        let within : place < length columns = slice_get_within columns place column column_is in
        let below : place < length cols = omega (arith, within, wide) in
        let none : ColumnCells = record { kind = kind.Int; cells = [] } in
        absurd (cc (slice_get-get_or cols place none below, cells_is))

    by : (o : Option ℕ) → column_place name columns ≡ o → is_some o ≡ true → Found columns cols name
    by None is none = absurd (cc none)
    by (Some place) is some = at place is (slice_get columns place) refl (slice_get cols place) refl

-- the cells of the chosen columns are those chosen of the cells
pub picked-across : (columns : Columns) (cols : List ColumnCells) (names : List (List ℕ)) (n : ℕ) → length cols ≡ length columns
    → list_all (has_column columns) names ≡ true → cells_across (picked_cols columns cols names) n ≡ picked_cells columns names (cells_across cols n)
picked-across columns cols [] n wide all = refl
picked-across columns cols (name ∷ names) n wide all =
    let both = and_parts (has_column columns name) (list_all (has_column columns) names) all in
    let f = found columns cols name wide both.0 in
    let rest = picked-across columns cols names n wide both.1 in
    let cell : cell_at (cells_across cols n) f.place ≡ cell_at f.cells.cells n = cells_across-at cols n f.place f.cells f.cells_at in
    rw (f.at, f.cells_at, cell) (ap (λ (cs : List Cell). cell_at f.cells.cells n ∷ cs) rest)

-- where nothing refuses a choice, each name is there, and the chosen columns make a schema
pub chosen : (columns : Columns) (names : List (List ℕ)) → choice_refusal columns names ≡ None
    → (list_all (has_column columns) names ≡ true) × (is_schema (picked columns names) ≡ true)
chosen columns names none = by (list_all (has_column columns) names) refl (is_schema (picked columns names)) refl none
  where
    by : (a : Bool) → list_all (has_column columns) names ≡ a → (b : Bool) → is_schema (picked columns names) ≡ b
        → (if not a then Some err.NoColumn else if not b then Some err.BadSchema else None) ≡ None
        → (list_all (has_column columns) names ≡ true) × (is_schema (picked columns names) ≡ true)
    by true all true schema none = (all, schema)
    by true all false schema none = absurd (cc none)
    by false all b schema none = absurd (cc none)

-- at one place are a column and its cells of one kind
same-kind : (columns : Columns) (cols : List ColumnCells) (place : ℕ) (column : List ℕ × Kind) (cells : ColumnCells)
    → map (λ (c : ColumnCells). c.kind) cols ≡ map (λ c. c.1) columns → slice_get columns place ≡ Some column → slice_get cols place ≡ Some cells
    → cells.kind ≡ column.1
same-kind [] cols place column cells kinds at there = absurd (cc at)
same-kind (first ∷ columns) [] place column cells kinds at there = absurd (cc there)
same-kind (first ∷ columns) (one ∷ cols) zero column cells kinds at there = let a : first ≡ column = cc at in let b : one ≡ cells = cc there in rw (← a, ← b) cc
same-kind (first ∷ columns) (one ∷ cols) (suc place) column cells kinds at there =
    let rest : map (λ (c : ColumnCells). c.kind) cols ≡ map (λ c. c.1) columns = cc in
    same-kind columns cols place column cells rest at there

same-length : (size place : ℕ) (cols : List ColumnCells) (cells : ColumnCells) → AllByRecursion (λ (c : ColumnCells). length c.cells ≡ size) cols
    → slice_get cols place ≡ Some cells → length cells.cells ≡ size
same-length size place [] cells long there = absurd (cc there)
same-length size zero (one ∷ cols) cells long there = let b : one ≡ cells = cc there in rw (← b) long.0
same-length size (suc place) (one ∷ cols) cells long there = same-length size place cols cells long.1 there

-- the chosen columns agree with the chosen schema
pub agree-picked : (columns : Columns) (cols : List ColumnCells) (size : ℕ) (names : List (List ℕ)) → Agree columns cols size → length cols ≡ length columns
    → list_all (has_column columns) names ≡ true → Agree (picked columns names) (picked_cols columns cols names) size
agree-picked columns cols size [] agree wide all = record { kinds = refl; lengths = tt }
agree-picked columns cols size (name ∷ names) agree wide all =
    let both = and_parts (has_column columns name) (list_all (has_column columns) names) all in
    let f = found columns cols name wide both.0 in
    let rest = agree-picked columns cols size names agree wide both.1 in
    let of_kind : f.cells.kind ≡ f.column.1 = same-kind columns cols f.place f.column f.cells agree.kinds f.column_at f.cells_at in
    rw (f.at, f.column_at, f.cells_at) (record {
      kinds = rw of_kind (ap (λ (ks : List Kind). f.column.1 ∷ ks) rest.kinds);
      lengths = (same-length size f.place cols f.cells agree.lengths f.cells_at, rest.lengths);
    })

-- one more column agrees with one more of its kind
pub agree-longer : (columns : Columns) (cols : List ColumnCells) (size : ℕ) (name : List ℕ) (column : ColumnCells) → Agree columns cols size
    → length column.cells ≡ size → Agree (columns ++ (name, column.kind) ∷ []) (cols ++ column ∷ []) size
agree-longer columns cols size name column agree long = record { kinds = kinds columns cols agree.kinds; lengths = lengths cols agree.lengths }
  where
    kinds : (columns : Columns) (cols : List ColumnCells) → map (λ (c : ColumnCells). c.kind) cols ≡ map (λ c. c.1) columns
        → map (λ (c : ColumnCells). c.kind) (cols ++ column ∷ []) ≡ map (λ c. c.1) (columns ++ (name, column.kind) ∷ [])
    kinds [] [] same = refl
    kinds [] (one ∷ cols) same = absurd (cc)
    kinds (first ∷ columns) [] same = absurd (cc)
    kinds (first ∷ columns) (one ∷ cols) same =
        let here : one.kind ≡ first.1 = cc in
        let rest : map (λ (c : ColumnCells). c.kind) cols ≡ map (λ c. c.1) columns = cc in
        rw here (ap (λ (ks : List Kind). first.1 ∷ ks) (kinds columns cols rest))

    lengths : (cols : List ColumnCells) → AllByRecursion (λ (c : ColumnCells). length c.cells ≡ size) cols
        → AllByRecursion (λ (c : ColumnCells). length c.cells ≡ size) (cols ++ column ∷ [])
    lengths [] all = (long, tt)
    lengths (one ∷ cols) all = (all.0, lengths cols all.1)

-- a cell before the last, and the last
at-before : (cells : List Cell) (v : Cell) (n : ℕ) → n < length cells → cell_at (cells ++ v ∷ []) n ≡ cell_at cells n
at-before [] v n within = absurd (omega (arith, within))
at-before (c ∷ cells) v zero within = refl
at-before (c ∷ cells) v (suc n) within = at-before cells v n (omega (arith, within))

at-last : (cells : List Cell) (v : Cell) → cell_at (cells ++ v ∷ []) (length cells) ≡ v
at-last [] v = refl
at-last (c ∷ cells) v = at-last cells v

-- one more cell that is the function's value at its place
pub next-value : (f : ℕ → Cell) (cells : List Cell) (v : Cell) (row : ℕ) → length cells ≡ row → ((n : ℕ) → n < row → cell_at cells n ≡ f n) → v ≡ f row
    → (n : ℕ) → n < row + 1 → cell_at (cells ++ v ∷ []) n ≡ f n
next-value f cells v row long before here n below =
    elim (cases_lt n row) [
      | inl low ↦ (let within : n < length cells = omega arith in at-before cells v n within ∙ before n low)
      | inr high ↦ (let same : n ≡ length cells = omega arith in let last : length cells ≡ row = long in
          rw (same, last) (rw (← last) (at-last cells v) ∙ here))
    ]

-- the value of an expression that can be used is missing or of its kind, whether the row is there or not
pub value_in-kind : (table : PartRows) (expr : Expr) (k : Kind) (n : ℕ) → HoldPart table → expr_fault table.columns expr ≡ None
    → kind_of table.columns expr ≡ Some k → is_of_kind k (value_in table expr n) ≡ true
value_in-kind table expr k n hold none of_kind = by (is_in n table.member.rows)
  where
    checked : checked_expr table.columns expr ≡ Ok k
    checked = rw (none, of_kind) refl

    kinds : have_kinds table.columns (cells_across table.cols n) ≡ true
    kinds = cells_across-kinds table.columns table.cols n hold.agree.kinds hold.cells

    by : (b : Bool) → is_of_kind k (if b then val table.columns (cells_across table.cols n) expr else cell.Missing) ≡ true
    by true = val-is_of_kind table.columns (cells_across table.cols n) kinds k expr checked
    by false = missing-is_of_kind k

-- what a function gives of one more element
pub given-next : {X Y : Type 0} (h : X → Option Y) (xs : List X) (j : ℕ) (x : X) (y : Y) → j < length xs → x ≡ get_or xs j x → h x ≡ Some y
    → filter_map h (take (j + 1) xs) ≡ filter_map h (take j xs) ++ y ∷ []
given-next h xs j x y within at gives = rw add-one (from xs j within at)
  where
    from : (xs : List _) (j : ℕ) → j < length xs → x ≡ get_or xs j x → filter_map h (take (suc j) xs) ≡ filter_map h (take j xs) ++ y ∷ []
    from [] j within at = absurd (omega (arith, within))
    from (first ∷ xs) zero within at = rw (← at, gives) refl
    from (first ∷ xs) (suc j) within at = by (h first) (from xs j (omega (arith, within)) at)
      where
        by : (o : Option _) → filter_map h (take (suc j) xs) ≡ filter_map h (take j xs) ++ y ∷ []
            → cons_option o (filter_map h (take (suc j) xs)) ≡ cons_option o (filter_map h (take j xs)) ++ y ∷ []
        by None more = more
        by (Some c) more = ap (λ (rest : List _). c ∷ rest) more

-- the place of a name that is there is that of a column
pub place-within : (columns : Columns) (name : List ℕ) (place : ℕ) → column_place name columns ≡ Some place → place < length columns
place-within columns name place is = let none : List ℕ × Kind = (name, kind.Int) in (position-Some (is_named name) columns place none is).0
