-- A walk over a table's rows, over a variable `G` for "what is kept is that of the rows".
use Rattle.std.proofs.Common.{◌≡◌, ◌≤◌, ◌<◌, ◌+◌, ◌^◌, ◌∷◌, ◌++◌, [], ℕ, List, Option, Some, None, refl, sym, ap, subst, length, arith, append_assoc, ◌∙◌}
use Rattle.std.specs.Prelude.{option_map}
use Rattle.std.proofs.lemmas.List.{append-nil, length-append}
use Rattle.hv_value.specs.Rows.{Row}
use Rattle.hv_value.specs.Schema.{Columns}
use Rattle.hv_value.specs.Table.{IsTable, onward, row_from}
use Rattle.hv_value.proofs.TableFacts.{IsNext, onward-all, is_next, onward-none, row_found}
use Rattle.hv_sketch.proofs.Apart.{apart_by}
use Rattle.hv_sketch.specs.Gathering.{AreBelow, ComesNext}
use Rattle.hv_sketch.specs.Merging.{IsApart}

-- the rows before a number have been gathered, and no others
pub record HasGathered (G : List Row → Type 0) (rows : List Row) (from : ℕ) : Type 0 where
  pub before : List Row
  pub split : before ++ onward from rows ≡ rows
  pub below : AreBelow from before
  pub few : length before ≤ from
  pub gathered : G before

-- the row of a number that `next_row` gives: the first from a number on
pub record IsStep (columns : Columns) (part from : ℕ) (rows : List Row) (row : ℕ) : Type 0 where
  pub found : Row
  pub number : found.number ≡ row
  pub there : row_from row rows ≡ Some found
  pub next : IsNext columns part from rows found

-- numbers below one number are below a higher one
AreBelow-higher : (low top : ℕ) (rows : List Row) → low ≤ top → AreBelow low rows → AreBelow top rows
AreBelow-higher low top [] le h = tt
AreBelow-higher low top (r ∷ rows) le h = (omega (arith, h.0), AreBelow-higher low top rows le h.1)

-- and so is a further one
AreBelow-more : (low top : ℕ) (rows : List Row) (row : Row) → low ≤ top → row.number < top → AreBelow low rows → AreBelow top (rows ++ row ∷ [])
AreBelow-more low top [] row le lt h = (lt, tt)
AreBelow-more low top (r ∷ rows) row le lt h = (omega (arith, h.0), AreBelow-more low top rows row le lt h.1)

-- rows with numbers below a row's number are apart from it
below_apart : (top : ℕ) (rows : List Row) (row : Row) → top ≤ row.number → AreBelow top rows → IsApart rows (row ∷ [])
below_apart top rows row le h =
    apart_by (λ x. x.number < top) (λ y. y.number ≡ row.number) (λ x y lower is tag. omega (arith, lower, is, tag.number))
    rows (row ∷ []) h (refl, tt)

-- `next_row` gives such a row's number
pub is_step : (columns : Columns) (part from : ℕ) (rows : List Row) (row : ℕ) → IsTable columns part rows
    → Some row ≡ option_map (λ found. found.number) (row_from from rows) → IsStep columns part from rows row
is_step columns part from rows row table e =
    let given = row_found (row_from from rows) row (sym e) in
    let next = is_next columns part 0 from rows given.0 table given.1 in
    record { found = given.0; number = given.2; there = subst (λ n. row_from n rows ≡ Some given.0) given.2 next.again; next = next }

-- the row is there
pub step_there : (columns : Columns) (part from : ℕ) (rows : List Row) (row : ℕ) → IsStep columns part from rows row
    → option_map (λ found. found.number) (row_from row rows) ≡ Some row
step_there columns part from rows row step = rw (step.there, step.number) refl

-- its number is between
pub step_number : (columns : Columns) (part from : ℕ) (rows : List Row) (row : ℕ) → IsStep columns part from rows row
    → (from ≤ row) × (row < 2 ^ 26)
step_number columns part from rows row step =
    (omega (arith, step.number, step.next.row.at_least), omega (arith, step.number, step.next.row.below))

-- at the start nothing has been gathered
pub gathered_none : (G : List Row → Type 0) (columns : Columns) (part : ℕ) (rows : List Row)
    → IsTable columns part rows → G [] → HasGathered G rows 0
gathered_none G columns part rows table g =
    record { before = []; split = onward-all columns part 0 rows table; below = tt; few = omega arith; gathered = g }

-- the next row may be added to those that have been gathered
pub can_add : (G : List Row → Type 0) (columns : Columns) (part from : ℕ) (rows : List Row) (row : ℕ)
    → (step : IsStep columns part from rows row) (so_far : HasGathered G rows from) → ComesNext so_far.before step.found
can_add G columns part from rows row step so_far =
    record {
      merge = record {
        apart = below_apart from so_far.before step.found step.next.row.at_least so_far.below;
        few = omega (arith, so_far.few, step.next.row.at_least, step.next.row.below);
      };
      below = AreBelow-higher from step.found.number so_far.before step.next.row.at_least so_far.below;
    }

-- with it one row more has been gathered
pub gathered_more : (G H : List Row → Type 0) (columns : Columns) (part from : ℕ) (rows : List Row) (row : ℕ)
    → (step : IsStep columns part from rows row) → HasGathered G rows from
    → ((before : List Row) (found : Row) → row_from row rows ≡ Some found → G before → ComesNext before found → H (before ++ found ∷ []))
    → HasGathered H rows (row + 1)
gathered_more G H columns part from rows row step so_far add =
    let up = step.next.row.at_least in
    let at = step.number in
    record {
      before = so_far.before ++ step.found ∷ [];
      split = rw (append_assoc, ← step.number, ← step.next.rest) so_far.split;
      below = AreBelow-more from (row + 1) so_far.before step.found (omega (arith, up, at)) (omega (arith, at)) so_far.below;
      few = simp length-append (omega (arith, up, at, so_far.few));
      gathered = add so_far.before step.found step.there so_far.gathered (can_add G columns part from rows row step so_far);
    }

-- where a row has no number there is no row
none_found : (o : Option Row) → None ≡ option_map (λ found. found.number) o → o ≡ None
none_found None e = refl
none_found (Some row) e = absurd (cc e)

-- where there is no further row, all have been gathered
pub gathered_all : (G : List Row → Type 0) (from : ℕ) (rows : List Row)
    → None ≡ option_map (λ found. found.number) (row_from from rows) → HasGathered G rows from → G rows
gathered_all G from rows e so_far =
    let ended : onward from rows ≡ [] = onward-none from rows (none_found (row_from from rows) e) in
    let whole : so_far.before ≡ rows = sym (append-nil so_far.before) ∙ ap (λ after. so_far.before ++ after) (sym ended) ∙ so_far.split in
    subst G whole so_far.gathered
