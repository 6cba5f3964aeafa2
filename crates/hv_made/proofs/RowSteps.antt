-- What each step makes of a table, against what the term's node makes of each row.
use Rattle.std.proofs.Common.{◌≡◌, ◌<◌, ◌≤◌, ◌^◌, ◌∙◌, ◌++◌, ◌∷◌, ◌+◌, [], ℕ, zero, suc, List, Bool, true, false, Option, Some, None, refl, sym, ap, map, length, arith, append_assoc, eqb, leb, inl, inr}
use Rattle.std.specs.Prelude.{◌&&◌, if◌then◌else◌, option_and_then, option_map}
use Rattle.std.specs.List.{cons_option, filter, filter_map, list_all, range_with_len}
use Rattle.std.proofs.lemmas.Bool.{and_from, and_parts, both_ways, cases_lt, eqb-true, le-leb, leb-true, or_cases}
use Rattle.std.proofs.lemmas.List.{map-append}
use Rattle.hv_value.specs.declared.cell.Cell.{Cell}
use Rattle.hv_value.specs.Cells.{cell_at}
use Rattle.hv_value.specs.Rows.{Row}
use Rattle.hv_value.specs.Schema.{Columns}
use Rattle.hv_value.specs.Table.{row_from}
use Rattle.hv_pick.specs.Word.{is_picked}
use Rattle.hv_member.specs.Member.{RowSet}
use Rattle.hv_member.specs.Sets.{IsRising, common, is_in, next_from, numbers}
use Rattle.hv_member.proofs.MembershipLemmas.{is_in-common, is_in-filter, is_in-first, is_in-rest}
use Rattle.hv_member.proofs.SearchLemmas.{NextLeft, left-none, left-some, next_from-some}
use Rattle.hv_member.proofs.RisingLemmas.{IsRising-filter, all-in, same_rising}
use Rattle.hv_column.specs.Column.{ColumnCells}
use Rattle.hv_column.specs.Rows.{cells_across, row_across, rows_across}
use Rattle.hv_part.specs.Part.{HoldPart, PartRows, rows_at, rows_of}
use Rattle.hv_part.proofs.RowsThere.{row_from-rows_at}
use Rattle.hv_expr.specs.declared.expr.Expr.{Expr}
use Rattle.hv_expr.specs.declared.pred.Pred.{Pred}
use Rattle.hv_expr.specs.Checks.{kind_of}
use Rattle.hv_expr.specs.Holds.{holds}
use Rattle.hv_expr.specs.Values.{val}
use Rattle.hv_lineage.specs.declared.how.How2.{How2}
use Rattle.hv_lineage.specs.declared.how.How2.TheVariants as how2
use Rattle.hv_lineage.specs.declared.term.Term.{Term}
use Rattle.hv_lineage.specs.declared.term.Term.TheVariants as term
use Rattle.hv_lineage.specs.Made.{Made, cells_by, columns_by, columns_of, picked, picked_cells, row_of, where_passing, with_column}
use Rattle.hv_lineage.specs.Refusals.{has_column}
use Rattle.hv_lineage.proofs.TermNodes.{made-Base, made-Combine, made-Derive, made-Filter, made-Project, made-Sample}
use Rattle.hv_made.specs.Steps.{IsCombined, IsDerived, IsMadeOf, cells_in, cells_under, passing, picked_cols, picked_rows, with_picked, with_rows}
use Rattle.hv_made.proofs.ColumnSteps.{picked-across}

-- a step over cells that an inner term makes is one step over the base's cells
through : (g : Option (List Cell) → Option (List Cell)) (f h : List Cell → Option (List Cell)) → g None ≡ None
    → ((cells : List Cell) → h cells ≡ g (f cells)) → (o : Option (List Cell)) → g (option_and_then f o) ≡ option_and_then h o
through g f h none each None = none
through g f h none each (Some cells) = sym (each cells)

-- so is one over cells that two terms make
through-two : (how : How2) (f g h : List Cell → Option (List Cell)) → ((cells : List Cell) → h cells ≡ cells_by how (f cells) (g cells))
    → (o : Option (List Cell)) → cells_by how (option_and_then f o) (option_and_then g o) ≡ option_and_then h o
through-two how f g h each None = by how
  where
    by : (k : How2) → cells_by k None None ≡ None
    by how2.Zip = refl
    by how2.Union = refl
    by how2.Both = refl
    by how2.Minus = refl
through-two how f g h each (Some cells) = sym (each cells)

-- the cells of a row of those that are kept, where a test of its number is one of its cells
kept-in : (table : PartRows) (p : ℕ → Bool) (keep : List Cell → Bool) (n : ℕ) → p n ≡ keep (cells_across table.cols n)
    → cells_in (with_rows table (filter p table.member.rows)) n ≡ option_and_then (where_passing keep) (cells_in table n)
kept-in table p keep n same = rw (is_in-filter p n table.member.rows, same) (by (is_in n table.member.rows) (keep (cells_across table.cols n)) refl)
  where
    by : (there passes : Bool) → keep (cells_across table.cols n) ≡ passes
        → (if passes && there then Some (cells_across table.cols n) else None)
        ≡ option_and_then (where_passing keep) (if there then Some (cells_across table.cols n) else None)
    by true true is = rw is refl
    by true false is = rw is refl
    by false true is = refl
    by false false is = refl

-- the cells of a row that is there, made of others
changed-in : (f : List Cell → List Cell) (there : Bool) (cells made : List Cell) → (there ≡ true → made ≡ f cells)
    → (if there then Some made else None) ≡ option_map f (if there then Some cells else None)
changed-in f true cells made same = ap Some (same refl)
changed-in f false cells made same = refl

module _ (of : Term) (base table : PartRows) (made : IsMadeOf of base table) where
  -- one more node, by what it makes of the cells of its inner term
  one_more : (node : Term) (g : ℕ → Option (List Cell) → Option (List Cell)) (longer : PartRows) → ((n : ℕ) → g n None ≡ None)
      → ((n : ℕ) (cells : List Cell) → cells_under node base n cells ≡ g n (cells_under of base n cells))
      → ((n : ℕ) → cells_in longer n ≡ g n (cells_in table n))
      → (n : ℕ) → cells_in longer n ≡ option_and_then (cells_under node base n) (cells_in base n)
  one_more node g longer none under here n =
      here n ∙ ap (g n) (made.cells_are n)
      ∙ through (g n) (cells_under of base n) (cells_under node base n) (none n) (under n) (cells_in base n)

  -- a filter
  pub step-Filter : (pred : Pred) → IsMadeOf (term.Filter of pred) base (with_rows table (passing pred table))
  step-Filter pred = record {
    columns_are = made.columns_are ∙ sym (ap (λ (m : Made). m.columns) (made-Filter base.columns of pred));
    part_is = made.part_is;
    height_is = made.height_is;
    cells_are = one_more (term.Filter of pred) (λ n. option_and_then (where_passing (λ cells. holds (columns_of base.columns of) cells pred)))
        (with_rows table (passing pred table)) (λ n. refl)
        (λ n cells. ap (λ (m : Made). m.cells (record { part = base.part; number = n; cells = cells })) (made-Filter base.columns of pred))
        (λ n. kept-in table (λ m. holds table.columns (cells_across table.cols m) pred) (λ cells. holds (columns_of base.columns of) cells pred) n
        (ap (λ (c : Columns). holds c (cells_across table.cols n) pred) made.columns_are));
  }

  -- a sample
  pub step-Sample : (seed threshold : ℕ) → IsMadeOf (term.Sample of seed threshold) base (with_rows table (picked_rows seed threshold table))
  step-Sample seed threshold = record {
    columns_are = made.columns_are ∙ sym (ap (λ (m : Made). m.columns) (made-Sample base.columns of seed threshold));
    part_is = made.part_is;
    height_is = made.height_is;
    cells_are = one_more (term.Sample of seed threshold) (λ n. option_and_then (where_passing (λ cells. is_picked seed threshold base.part n)))
        (with_rows table (picked_rows seed threshold table)) (λ n. refl)
        (λ n cells. ap (λ (m : Made). m.cells (record { part = base.part; number = n; cells = cells })) (made-Sample base.columns of seed threshold))
        (λ n. kept-in table (λ m. is_picked seed threshold table.part m) (λ cells. is_picked seed threshold base.part n) n
        (ap (λ (part : ℕ). is_picked seed threshold part n) made.part_is));
  }

  -- a choice of columns
  pub step-Project : (names : List (List ℕ)) → length table.cols ≡ length table.columns → list_all (has_column table.columns) names ≡ true
      → IsMadeOf (term.Project of names) base (with_picked table names)
  step-Project names wide all = record {
    columns_are = ap (λ (c : Columns). picked c names) made.columns_are ∙ sym (ap (λ (m : Made). m.columns) (made-Project base.columns of names));
    part_is = made.part_is;
    height_is = made.height_is;
    cells_are = one_more (term.Project of names) (λ n. option_map (picked_cells (columns_of base.columns of) names)) (with_picked table names) (λ n. refl)
        (λ n cells. ap (λ (m : Made). m.cells (record { part = base.part; number = n; cells = cells })) (made-Project base.columns of names))
        (λ n. changed-in (picked_cells (columns_of base.columns of) names) (is_in n table.member.rows) (cells_across table.cols n)
        (cells_across (picked_cols table.columns table.cols names) n)
        (λ there. picked-across table.columns table.cols names n wide all
        ∙ ap (λ (c : Columns). picked_cells c names (cells_across table.cols n)) made.columns_are));
  }

  -- a derived column
  pub step-Derive : (name : List ℕ) (expr : Expr) (longer : PartRows) → IsDerived table name expr longer → IsMadeOf (term.Derive of name expr) base longer
  step-Derive name expr longer derived = rw derived.is (record {
    columns_are = ap (λ (c : Columns). with_column c name (kind_of c expr)) made.columns_are
        ∙ sym (ap (λ (m : Made). m.columns) (made-Derive base.columns of name expr));
    part_is = made.part_is;
    height_is = made.height_is;
    cells_are = one_more (term.Derive of name expr) (λ n. option_map (λ cells. cells ++ val (columns_of base.columns of) cells expr ∷ []))
        (record table { columns = with_column table.columns name (kind_of table.columns expr); cols = table.cols ++ derived.column ∷ [] }) (λ n. refl)
        (λ n cells. ap (λ (m : Made). m.cells (record { part = base.part; number = n; cells = cells })) (made-Derive base.columns of name expr))
        (λ n. changed-in (λ cells. cells ++ val (columns_of base.columns of) cells expr ∷ []) (is_in n table.member.rows) (cells_across table.cols n)
        (cells_across (table.cols ++ derived.column ∷ []) n)
        (λ there. longer_across n there
        ∙ ap (λ (c : Columns). cells_across table.cols n ++ val c (cells_across table.cols n) expr ∷ []) made.columns_are));
  })
    where
      longer_across : (n : ℕ) → is_in n table.member.rows ≡ true → cells_across (table.cols ++ derived.column ∷ []) n
          ≡ cells_across table.cols n ++ val table.columns (cells_across table.cols n) expr ∷ []
      longer_across n there =
          map-append (λ (column : ColumnCells). cell_at column.cells n) table.cols (derived.column ∷ [])
          ∙ ap (λ (c : Cell). cells_across table.cols n ++ c ∷ []) (derived.values n there)

-- where each list of cells is left as it is, so is one that may not be there
left-whole : (f : List Cell → Option (List Cell)) → ((cells : List Cell) → f cells ≡ Some cells) → (o : Option (List Cell)) → o ≡ option_and_then f o
left-whole f each None = refl
left-whole f each (Some cells) = sym (each cells)

-- a base alone
pub step-Base : (base : PartRows) → IsMadeOf term.Base base base
step-Base base = record {
  columns_are = sym (ap (λ (m : Made). m.columns) (made-Base base.columns));
  part_is = refl;
  height_is = refl;
  cells_are = λ n. left-whole (cells_under term.Base base n)
      (λ cells. ap (λ (m : Made). m.cells (record { part = base.part; number = n; cells = cells })) (made-Base base.columns)) (cells_in base n);
}

-- two terms combined
pub step-Combine : (how : How2) (one other : Term) (base left right made : PartRows) → IsMadeOf one base left → IsMadeOf other base right
    → IsCombined how left right made → IsMadeOf (term.Combine how one other) base made
step-Combine how one other base left right made lefts rights combined = record {
  columns_are = combined.columns_are ∙ ap (λ (c : Columns). columns_by how c right.columns) lefts.columns_are
      ∙ ap (λ (c : Columns). columns_by how (columns_of base.columns one) c) rights.columns_are
      ∙ sym (ap (λ (m : Made). m.columns) (made-Combine base.columns how one other));
  part_is = combined.part_is ∙ lefts.part_is;
  height_is = combined.height_is ∙ lefts.height_is;
  cells_are = λ n. combined.cells_are n ∙ ap (λ (o : Option (List Cell)). cells_by how o (cells_in right n)) (lefts.cells_are n)
      ∙ ap (λ (o : Option (List Cell)). cells_by how (option_and_then (cells_under one base n) (cells_in base n)) o) (rights.cells_are n)
      ∙ through-two how (cells_under one base n) (cells_under other base n) (cells_under (term.Combine how one other) base n)
      (λ cells. ap (λ (m : Made). m.cells (record { part = base.part; number = n; cells = cells })) (made-Combine base.columns how one other))
      (cells_in base n);
}

module _ (t : Term) (base made : PartRows) (is : IsMadeOf t base made) where
  -- a row of what is made is one of the base's
  within : (n : ℕ) → is_in n base.member.rows ≡ false → is_in n made.member.rows ≡ false
  within n out = by (is_in n made.member.rows) (rw out at (is.cells_are n))
    where
      by : (b : Bool) → (if b then Some (cells_across made.cols n) else None) ≡ None → b ≡ false
      by true none = absurd (cc none)
      by false none = refl

  -- a base row under the term is that of its number in what is made
  under : (n : ℕ) → is_in n base.member.rows ≡ true
      → row_of base.columns t (row_across base.part base.cols n) ≡ (if is_in n made.member.rows then Some (row_across made.part made.cols n) else None)
  under n there =
      ap (option_map (λ (cells : List Cell). record { part = base.part; number = n; cells = cells })) (sym (rw there at (is.cells_are n)))
      ∙ by (is_in n made.member.rows)
    where
      by : (b : Bool) → option_map (λ (cells : List Cell). record { part = base.part; number = n; cells = cells })
          (if b then Some (cells_across made.cols n) else None) ≡ (if b then Some (row_across made.part made.cols n) else None)
      by true = ap (λ (part : ℕ). Some (row_across part made.cols n)) (sym is.part_is)
      by false = refl

  -- the base rows under the term are those of the numbers in what is made
  rows-under : (ns : List ℕ) → ((n : ℕ) → is_in n ns ≡ true → is_in n base.member.rows ≡ true)
      → rows_at made.part made.cols (common ns made.member.rows) ≡ filter_map (row_of base.columns t) (rows_at base.part base.cols ns)
  rows-under [] all = refl
  rows-under (n ∷ ns) all =
      rw (under n (all n (is_in-first n ns))) (by (is_in n made.member.rows) (rows-under ns (λ m there. all m (is_in-rest m n ns there))))
    where
      by : (b : Bool) → rows_at made.part made.cols (common ns made.member.rows) ≡ filter_map (row_of base.columns t) (rows_at base.part base.cols ns)
          → rows_at made.part made.cols (if b then n ∷ common ns made.member.rows else common ns made.member.rows)
          ≡ cons_option (if b then Some (row_across made.part made.cols n) else None) (filter_map (row_of base.columns t) (rows_at base.part base.cols ns))
      by true more = ap (λ (rest : List Row). row_across made.part made.cols n ∷ rest) more
      by false more = more

  -- so the rows of what is made are the base's under the term
  pub rows-made : IsRising base.member.rows → IsRising made.member.rows → rows_of made ≡ filter_map (row_of base.columns t) (rows_of base)
  rows-made rising also =
      ap (rows_at made.part made.cols) (sym all) ∙ rows-under base.member.rows (λ n there. there)
    where
      both : (z : ℕ) (a b : Bool) → is_in z base.member.rows ≡ b → is_in z made.member.rows ≡ a → (a && b) ≡ a
      both z true true b_is a_is = refl
      both z true false b_is a_is = absurd (both_ways (is_in z made.member.rows) (within z b_is) a_is)
      both z false b b_is a_is = refl

      all : common base.member.rows made.member.rows ≡ made.member.rows
      all = same_rising (common base.member.rows made.member.rows) made.member.rows (IsRising-filter (λ x. is_in x made.member.rows) base.member.rows rising) also
          (λ z. is_in-common z base.member.rows made.member.rows ∙ both z (is_in z made.member.rows) (is_in z base.member.rows) refl refl)

-- the rows of all numbers from one on
rows-run : (part : ℕ) (cols : List ColumnCells) (number count : ℕ) → rows_at part cols (range_with_len number count) ≡ rows_across part cols number count
rows-run part cols number zero = refl
rows-run part cols number (suc count) = ap (λ (rest : List Row). row_across part cols number ∷ rest) (rows-run part cols (number + 1) count)

pub rows-numbers : (part : ℕ) (cols : List ColumnCells) (count : ℕ) → rows_at part cols (numbers count) ≡ rows_across part cols 0 count
rows-numbers part cols count = rows-run part cols 0 count

-- a row of a number that is there
pub row-there : (table : PartRows) (row : ℕ) → HoldPart table → is_in row table.member.rows ≡ true
    → row_from row (rows_of table) ≡ Some (row_across table.part table.cols row)
row-there table row hold there =
    let first : next_from row table.member.rows ≡ Some row =
    next_from-some row row table.member.rows hold.member.rising there (omega arith) (λ x there high. high) in
    row_from-rows_at table.part table.cols row table.member.rows ∙ ap (option_map (row_across table.part table.cols)) first

-- a walk over numbers that keeps those that pass: one more is offered
pub walk-offered : (q : ℕ → Bool) (kept those all : List ℕ) (from n : ℕ) → NextLeft from n those
    → kept ++ filter q (filter (leb from) those) ≡ all
    → (passes : Bool) → passes ≡ q n → (kept ++ (if passes then n ∷ [] else [])) ++ filter q (filter (leb (n + 1)) those) ≡ all
walk-offered q kept those all from n next sofar true is =
    append_assoc kept (n ∷ []) (filter q (filter (leb (n + 1)) those)) ∙ (rw (next.first, sym is) at sofar)
walk-offered q kept those all from n next sofar false is =
    append_assoc kept [] (filter q (filter (leb (n + 1)) those)) ∙ (rw (next.first, sym is) at sofar)

-- the number that `next` gives of a table's rows is that of a row, and the first that is left
pub next-left : (table : PartRows) (member : RowSet) (from n : ℕ) → HoldPart table → member ≡ table.member → Some n ≡ next_from from member.rows
    → NextLeft from n table.member.rows
next-left table member from n hold same is = left-some from n table.member.rows hold.member.rising (rw same at (sym is))

-- which is below 2^26
pub next-small : (table : PartRows) (from n : ℕ) → HoldPart table → NextLeft from n table.member.rows → n < 2 ^ 26
next-small table from n hold next =
    let below : n < table.member.size = all-in (λ x. x < table.member.size) table.member.rows hold.member.below n next.there in omega (arith, hold.few)

-- and leaves fewer
pub next-fewer : (rows : List ℕ) (from n : ℕ) → NextLeft from n rows → length (filter (leb (n + 1)) rows) < length (filter (leb from) rows)
next-fewer rows from n next = rw next.first (omega arith)

-- none of them is passed over
pub next-least : (rows : List ℕ) (from n : ℕ) → NextLeft from n rows → (m : ℕ) → is_in m rows ≡ true → from ≤ m → n ≤ m
next-least rows from n next m there low =
    elim (or_cases (eqb m n) _ first) [
      | inl same ↦ let e : m ≡ n = eqb-true m n same in omega arith
      | inr later ↦ let above : n + 1 ≤ m = leb-true (n + 1) m (and_parts (leb (n + 1) m) _ (sym (is_in-filter (leb (n + 1)) m rows) ∙ later)).0 in omega arith
    ]
  where
    left : is_in m (filter (leb from) rows) ≡ true
    left = is_in-filter (leb from) m rows ∙ and_from _ _ (le-leb from m low) there

    first : is_in m (n ∷ filter (leb (n + 1)) rows) ≡ true
    first = rw next.first at left

-- where none is left, all are below
pub next-none : (rows : List ℕ) (from : ℕ) → next_from from rows ≡ None → (m : ℕ) → is_in m rows ≡ true → m < from
next-none rows from none m there =
    elim (cases_lt m from) [
      | inl below ↦ below
      | inr high ↦
          let left : is_in m (filter (leb from) rows) ≡ true = is_in-filter (leb from) m rows ∙ and_from _ _ (le-leb from m high) there in
          absurd (both_ways false refl (rw (left-none from rows none) at left))
    ]
