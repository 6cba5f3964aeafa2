-- Base rows under a term, node by node.
use Rattle.std.proofs.Common.{◌≡◌, ◌∙◌, ◌++◌, ◌∷◌, [], ℕ, List, Bool, true, false, Option, Some, None, refl, ap, map}
use Rattle.std.specs.Prelude.{if◌then◌else◌, is_some, option_map}
use Rattle.std.specs.List.{filter, filter_map, cons_option}
use Rattle.std.specs.Option.{option_and_then, option_or}
use Rattle.hv_value.specs.declared.cell.Cell.{Cell}
use Rattle.hv_value.specs.Rows.{Row}
use Rattle.hv_value.specs.Schema.{Columns}
use Rattle.hv_expr.specs.declared.expr.Expr.{Expr}
use Rattle.hv_expr.specs.declared.pred.Pred.{Pred}
use Rattle.hv_expr.specs.Holds.{holds}
use Rattle.hv_expr.specs.Values.{val}
use Rattle.hv_pick.specs.Word.{is_picked}
use Rattle.hv_lineage.specs.declared.how.How2.{How2}
use Rattle.hv_lineage.specs.declared.how.How2.TheVariants as how2
use Rattle.hv_lineage.specs.declared.term.Term.{Term}
use Rattle.hv_lineage.specs.declared.term.Term.TheVariants as term
use Rattle.hv_lineage.specs.Made.{Made, cells_by, columns_of, made_of, picked_cells, row_of}
use Rattle.hv_lineage.proofs.TermNodes.{made-Base, made-Combine, made-Derive, made-Filter, made-Project, made-Sample}

-- a row with other cells
abbrev pub recelled : (List Cell → List Cell) → Row → Row
recelled f row = record row { cells = f row.cells }

-- a row of the cells that a base row has, where it is there
abbrev tagged : (Row → Option (List Cell)) → Row → Option Row
tagged cells row = option_map (λ cs. record row { cells = cs }) (cells row)

-- each row of a base is there as it is
rows-all : (rows : List Row) → filter_map (tagged (λ row. Some row.cells)) rows ≡ rows
rows-all [] = refl
rows-all (row ∷ rows) = ap (λ (rest : List Row). row ∷ rest) (rows-all rows)

-- a row's cells where the row passes with them, none where it doesn't
abbrev passing : (Row → Bool) → (Row → Option (List Cell)) → Row → Option (List Cell)
passing passes cells row = option_and_then (λ cs. if passes (record row { cells = cs }) then Some cs else None) (cells row)

-- where a row must pass, the rows are those that pass
rows-passing : (passes : Row → Bool) (cells : Row → Option (List Cell)) (rows : List Row)
    → filter_map (tagged (passing passes cells)) rows ≡ filter passes (filter_map (tagged cells) rows)
rows-passing passes cells [] = refl
rows-passing passes cells (row ∷ rows) = by (cells row) (rows-passing passes cells rows)
  where
    by : (o : Option (List Cell)) → filter_map (tagged (passing passes cells)) rows ≡ filter passes (filter_map (tagged cells) rows)
        → cons_option (option_map (λ cs. record row { cells = cs }) (option_and_then (λ cs. if passes (record row { cells = cs }) then Some cs else None) o))
        (filter_map (tagged (passing passes cells)) rows)
        ≡ filter passes (cons_option (option_map (λ cs. record row { cells = cs }) o) (filter_map (tagged cells) rows))
    by None more = more
    by (Some cs) more = at (passes (record row { cells = cs }))
      where
        at : (b : Bool)
            → cons_option (option_map (λ c. record row { cells = c }) (if b then Some cs else None)) (filter_map (tagged (passing passes cells)) rows)
            ≡ (if b then record row { cells = cs } ∷ filter passes (filter_map (tagged cells) rows) else filter passes (filter_map (tagged cells) rows))
        at true = ap (λ (rest : List Row). record row { cells = cs } ∷ rest) more
        at false = more

-- where a row's cells are changed, the rows are the changed ones
rows-changed : (f : List Cell → List Cell) (cells : Row → Option (List Cell)) (rows : List Row)
    → filter_map (tagged (λ row. option_map f (cells row))) rows ≡ map (recelled f) (filter_map (tagged cells) rows)
rows-changed f cells [] = refl
rows-changed f cells (row ∷ rows) = by (cells row) (rows-changed f cells rows)
  where
    by : (o : Option (List Cell)) → filter_map (tagged (λ r. option_map f (cells r))) rows ≡ map (recelled f) (filter_map (tagged cells) rows)
        → cons_option (option_map (λ cs. record row { cells = cs }) (option_map f o)) (filter_map (tagged (λ r. option_map f (cells r))) rows)
        ≡ map (recelled f) (cons_option (option_map (λ cs. record row { cells = cs }) o) (filter_map (tagged cells) rows))
    by None more = more
    by (Some cs) more = ap (λ (rest : List Row). record row { cells = f cs } ∷ rest) more

-- the rows of a base
pub rows-Base : (base : Columns) (rows : List Row) → filter_map (row_of base term.Base) rows ≡ rows
rows-Base base rows = ap (λ (m : Made). filter_map (tagged m.cells) rows) (made-Base base) ∙ rows-all rows

-- of a filter
pub rows-Filter : (base : Columns) (of : Term) (pred : Pred) (rows : List Row)
    → filter_map (row_of base (term.Filter of pred)) rows ≡ filter (λ row. holds (columns_of base of) row.cells pred) (filter_map (row_of base of) rows)
rows-Filter base of pred rows =
    ap (λ (m : Made). filter_map (tagged m.cells) rows) (made-Filter base of pred)
    ∙ rows-passing (λ row. holds (columns_of base of) row.cells pred) (made_of base of).cells rows

-- of a choice of columns
pub rows-Project : (base : Columns) (of : Term) (cols : List (List ℕ)) (rows : List Row)
    → filter_map (row_of base (term.Project of cols)) rows ≡ map (recelled (picked_cells (columns_of base of) cols)) (filter_map (row_of base of) rows)
rows-Project base of cols rows =
    ap (λ (m : Made). filter_map (tagged m.cells) rows) (made-Project base of cols)
    ∙ rows-changed (picked_cells (columns_of base of) cols) (made_of base of).cells rows

-- of a derived column
pub rows-Derive : (base : Columns) (of : Term) (name : List ℕ) (expr : Expr) (rows : List Row)
    → filter_map (row_of base (term.Derive of name expr)) rows
    ≡ map (recelled (λ cells. cells ++ val (columns_of base of) cells expr ∷ [])) (filter_map (row_of base of) rows)
rows-Derive base of name expr rows =
    ap (λ (m : Made). filter_map (tagged m.cells) rows) (made-Derive base of name expr)
    ∙ rows-changed (λ cells. cells ++ val (columns_of base of) cells expr ∷ []) (made_of base of).cells rows

-- of a sample
pub rows-Sample : (base : Columns) (of : Term) (seed threshold : ℕ) (rows : List Row)
    → filter_map (row_of base (term.Sample of seed threshold)) rows
    ≡ filter (λ row. is_picked seed threshold row.part row.number) (filter_map (row_of base of) rows)
rows-Sample base of seed threshold rows =
    ap (λ (m : Made). filter_map (tagged m.cells) rows) (made-Sample base of seed threshold)
    ∙ rows-passing (λ row. is_picked seed threshold row.part row.number) (made_of base of).cells rows

-- a row of two terms combined, by the rows that each of them makes of one base row
abbrev pub row_by : How2 → Option Row → Option Row → Option Row
row_by how2.Zip left right = option_and_then (λ (x : Row). option_map (λ (y : Row). record x { cells = x.cells ++ y.cells }) right) left
row_by how2.Union left right = option_or left right
row_by how2.Both left right = option_and_then (λ (y : Row). left) right
row_by how2.Minus left right = if is_some right then None else left

-- its cells are those of both, combined
pub cells-Combine : (base : Columns) (how : How2) (left right : Term) (row : Row)
    → (made_of base (term.Combine how left right)).cells row ≡ cells_by how ((made_of base left).cells row) ((made_of base right).cells row)
cells-Combine base how left right row = ap (λ (m : Made). m.cells row) (made-Combine base how left right)

-- a base row under two terms combined is its two rows under them, combined
pub row-Combine : (base : Columns) (how : How2) (left right : Term) (row : Row)
    → row_of base (term.Combine how left right) row ≡ row_by how (row_of base left row) (row_of base right row)
row-Combine base how left right row =
    ap (option_map (λ cs. record row { cells = cs })) (cells-Combine base how left right row)
    ∙ by how ((made_of base left).cells row) ((made_of base right).cells row)
  where
    by : (h : How2) (x y : Option (List Cell))
        → option_map (λ cs. record row { cells = cs }) (cells_by h x y)
        ≡ row_by h (option_map (λ cs. record row { cells = cs }) x) (option_map (λ cs. record row { cells = cs }) y)
    by how2.Zip None y = refl
    by how2.Zip (Some x) None = refl
    by how2.Zip (Some x) (Some y) = refl
    by how2.Union None y = refl
    by how2.Union (Some x) y = refl
    by how2.Both x None = refl
    by how2.Both x (Some y) = refl
    by how2.Minus x None = refl
    by how2.Minus x (Some y) = refl
