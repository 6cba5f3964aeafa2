-- Records pushed into columns.
use Rattle.std.proofs.Common.{◌≡◌, ◌≤◌, ◌<◌, ◌+◌, ◌^◌, ◌∷◌, ◌++◌, [], ◌∙◌, ℕ, zero, suc, List, Option, refl, sym, ap, length, map, get_or, set, take, drop, arith, add-one, append_assoc, length-append}
use Rattle.std.proofs.lemmas.List.{append-nil, drop_all, take_all}
use Rattle.hv_value.specs.declared.cell.Cell.{Cell}
use Rattle.hv_value.specs.declared.cell.Kind.{Kind}
use Rattle.std.specs.Prelude.{option_and_then}
use Rattle.csv.specs.Records.{field_at}
use Rattle.hv_value.specs.Rows.{cell_in, cell_of_found}
use Rattle.hv_value.specs.Schema.{Columns}
use Rattle.hv_column.specs.Column.{ColumnCells}
use Rattle.hv_column.specs.Rows.{columns_of_records}
use Rattle.hv_csv.specs.Fill.{HaveRoom, empty_column, place_in, with_field, with_row, with_rows}

-- a column with one more cell set in place, after the columns before it
step-set : (places : List (Option ℕ)) (fields : List (List ℕ)) (cols : List ColumnCells) (j : ℕ) (place : Option ℕ) (column : ColumnCells)
    → length places ≡ length cols → j < length cols
    → set (with_row (take j places) fields (take j cols) ++ drop j cols) j (with_field (get_or places j place) fields (get_or cols j column))
    ≡ with_row (take (suc j) places) fields (take (suc j) cols) ++ drop (suc j) cols
step-set places fields [] j place column same within = absurd (omega (arith, within))
step-set [] fields (c ∷ cols) j place column same within = absurd (omega (arith, same))
step-set (p ∷ places) fields (c ∷ cols) zero place column same within = refl
step-set (p ∷ places) fields (c ∷ cols) (suc j) place column same within =
    let less : length places ≡ length cols = omega (arith, same) in
    ap (λ (rest : List ColumnCells). with_field p fields c ∷ rest) (step-set places fields cols j place column less (omega (arith, within)))

-- the column at the place is as it was
step-read : (places : List (Option ℕ)) (fields : List (List ℕ)) (cols : List ColumnCells) (j : ℕ) (column : ColumnCells)
    → length places ≡ length cols → j < length cols
    → get_or (with_row (take j places) fields (take j cols) ++ drop j cols) j column ≡ get_or cols j column
step-read places fields [] j column same within = absurd (omega (arith, within))
step-read [] fields (c ∷ cols) j column same within = absurd (omega (arith, same))
step-read (p ∷ places) fields (c ∷ cols) zero column same within = refl
step-read (p ∷ places) fields (c ∷ cols) (suc j) column same within =
    let less : length places ≡ length cols = omega (arith, same) in
    step-read places fields cols j column less (omega (arith, within))

-- what was read at a place, of the columns so far
pub row-read : (places : List (Option ℕ)) (fields : List (List ℕ)) (cols now : List ColumnCells) (j : ℕ) (column : ColumnCells)
    → length places ≡ length cols → j < length cols
    → now ≡ with_row (take j places) fields (take j cols) ++ drop j cols
    → get_or now j column ≡ get_or cols j column
row-read places fields cols now j column same within so_far = rw so_far (step-read places fields cols j column same within)

-- one more column has its cell
pub row-step : (places : List (Option ℕ)) (fields : List (List ℕ)) (cols now : List ColumnCells) (j : ℕ) (place : Option ℕ) (column after : ColumnCells)
    → length places ≡ length cols → j < length cols
    → now ≡ with_row (take j places) fields (take j cols) ++ drop j cols
    → after ≡ with_field (get_or places j place) fields (get_or now j column)
    → set now j after ≡ with_row (take (j + 1) places) fields (take (j + 1) cols) ++ drop (j + 1) cols
row-step places fields cols now j place column after same within so_far pushed =
    let was : get_or now j column ≡ get_or cols j column = row-read places fields cols now j column same within so_far in
    let whole : after ≡ with_field (get_or places j place) fields (get_or cols j column) =
    pushed ∙ ap (λ (c : ColumnCells). with_field (get_or places j place) fields c) was in
    rw (whole, so_far, add-one) (step-set places fields cols j place column same within)

-- a column among those with room has it
pub room-at : (more : ℕ) (cols : List ColumnCells) (j : ℕ) (column : ColumnCells) → HaveRoom more cols → j < length cols
    → length (get_or cols j column).cells + more ≤ 2 ^ 26
room-at more [] j column room within = absurd (omega (arith, within))
room-at more (c ∷ cols) zero column room within = room.0
room-at more (c ∷ cols) (suc j) column room within = room-at more cols j column room.1 (omega (arith, within))

-- less room is room too
pub room-less : (more less : ℕ) (cols : List ColumnCells) → less ≤ more → HaveRoom more cols → HaveRoom less cols
room-less more less [] fewer room = tt
room-less more less (c ∷ cols) fewer room = (omega (arith, room.0, fewer), room-less more less cols fewer room.1)

-- a row takes one cell of room
pub room-after : (more : ℕ) (places : List (Option ℕ)) (fields : List (List ℕ)) (cols : List ColumnCells)
    → HaveRoom (suc more) cols → HaveRoom more (with_row places fields cols)
room-after more [] fields cols room = tt
room-after more (p ∷ places) fields [] room = tt
room-after more (p ∷ places) fields (c ∷ cols) room =
    let size = length-append c.cells (cell_of_found c.kind (option_and_then (field_at fields) p) ∷ []) in
    (omega (arith, room.0, size), room-after more places fields cols room.1)

-- a row leaves the number of columns
pub length-with_row : (places : List (Option ℕ)) (fields : List (List ℕ)) (cols : List ColumnCells) → length places ≡ length cols
    → length (with_row places fields cols) ≡ length cols
length-with_row [] fields [] same = refl
length-with_row [] fields (c ∷ cols) same = absurd (omega (arith, same))
length-with_row (p ∷ places) fields [] same = refl
length-with_row (p ∷ places) fields (c ∷ cols) same =
    let less : length places ≡ length cols = omega (arith, same) in
    ap suc (length-with_row places fields cols less)

-- the records left over go to the columns so far as all did to the columns at first
pub record Pushes (places : List (Option ℕ)) (all : List (List (List ℕ))) (first : List ColumnCells) (left : List (List (List ℕ))) (cols : List ColumnCells) : Type 0 where
  pub same : with_rows places left cols ≡ with_rows places all first
  pub room : HaveRoom (length left) cols
  pub wide : length places ≡ length cols

-- one more record
pub pushes-more : (places : List (Option ℕ)) (all : List (List (List ℕ))) (first : List ColumnCells) (fields : List (List ℕ))
    (before left : List (List (List ℕ))) (cols after : List ColumnCells)
    → Pushes places all first before cols → before ≡ fields ∷ left → after ≡ with_row places fields cols → Pushes places all first left after
pushes-more places all first fields before left cols after so_far next pushed =
    let room : HaveRoom (suc (length left)) cols = rw next at so_far.room in
    rw pushed (record {
      same = rw next at so_far.same;
      room = room-after (length left) places fields cols room;
      wide = so_far.wide ∙ sym (length-with_row places fields cols so_far.wide);
    })

-- a next record has room
pub pushes-room : (places : List (Option ℕ)) (all : List (List (List ℕ))) (first : List ColumnCells) (fields : List (List ℕ))
    (before left : List (List (List ℕ))) (cols : List ColumnCells)
    → Pushes places all first before cols → before ≡ fields ∷ left → HaveRoom 1 cols
pushes-room places all first fields before left cols so_far next =
    room-less (length before) 1 cols (rw next (omega arith)) so_far.room

-- none is left
pub pushes-all : (places : List (Option ℕ)) (all : List (List (List ℕ))) (first : List ColumnCells) (left : List (List (List ℕ))) (cols : List ColumnCells)
    → Pushes places all first left cols → left ≡ [] → cols ≡ with_rows places all first
pushes-all places all first left cols so_far none = rw none at so_far.same

-- columns with the same cells
map-columns : {f g : List ℕ × Kind → List Cell} (columns : Columns) → ((column : List ℕ × Kind) → f column ≡ g column)
    → map (λ column. let c : ColumnCells = record { kind = column.1; cells = f column } in c) columns
    ≡ map (λ column. let c : ColumnCells = record { kind = column.1; cells = g column } in c) columns
map-columns [] same = refl
map-columns (column ∷ columns) same = rw (same column, map-columns columns same) refl

-- columns of a schema after one more record under the header
with_row-from : (columns : Columns) (header : List (List ℕ)) (cells : List ℕ × Kind → List Cell) (fields : List (List ℕ))
    → with_row (map (place_in header) columns) fields (map (λ column. record { kind = column.1; cells = cells column }) columns)
    ≡ map (λ column. record { kind = column.1; cells = cells column ++ cell_in header fields column ∷ [] }) columns
with_row-from [] header cells fields = refl
with_row-from (column ∷ columns) header cells fields =
    ap (λ (rest : List ColumnCells). record { kind = column.1; cells = cells column ++ cell_in header fields column ∷ [] } ∷ rest) (with_row-from columns header cells fields)

-- columns whose cells are those of the records so far, after the other records
with_rows-from : (columns : Columns) (header : List (List ℕ)) (cells : List ℕ × Kind → List Cell) (records : List (List (List ℕ)))
    → with_rows (map (place_in header) columns) records (map (λ column. record { kind = column.1; cells = cells column }) columns)
    ≡ map (λ column. record { kind = column.1; cells = cells column ++ map (λ fields. cell_in header fields column) records }) columns
with_rows-from columns header cells [] = map-columns columns (λ column. sym (append-nil (cells column)))
with_rows-from columns header cells (fields ∷ records) =
    rw (with_row-from columns header cells fields)
    (with_rows-from columns header (λ column. cells column ++ cell_in header fields column ∷ []) records
    ∙ map-columns columns (λ column. append_assoc (cells column) (cell_in header fields column ∷ []) (map (λ f. cell_in header f column) records)))

-- columns without cells have room
pub room-empty : (more : ℕ) (columns : Columns) → more ≤ 2 ^ 26 → HaveRoom more (map empty_column columns)
room-empty more [] few = tt
room-empty more (column ∷ columns) few = (omega (arith, few), room-empty more columns few)

-- all records after the header, pushed into columns without cells
pub with_rows-all : (columns : Columns) (header : List (List ℕ)) (records all : List (List (List ℕ))) → all ≡ header ∷ records
    → with_rows (map (place_in header) columns) records (map empty_column columns) ≡ columns_of_records columns all
with_rows-all columns header records all whole = rw whole (with_rows-from columns header (λ column. []) records)

-- a list whose slice was written over as a whole
pub written-over : {T : Type 0} (n : ℕ) (new old : List T) → length new ≡ length old → n ≡ length old → take n (new ++ drop (length new) old) ≡ new
written-over n new old same size =
    let none : drop (length new) old ≡ [] = drop_all (length new) old (omega (arith, same)) in
    rw (none, append-nil new) (take_all n new (omega (arith, size, same)))
