-- The next rows of a list of rows in an order: this project's own rule.
use Rattle.std.specs.Prelude.{◌≡◌, ◌≤◌, ◌+◌, ◌^◌, ℕ, List, Bool, true, Option, Some, None, length, map, not, take, filter, count_by}
use Rattle.std.specs.Ordering.{is_gt}
use Rattle.std.specs.declared.cmp.Ordering.{Ordering}
use Rattle.hv_value.specs.declared.cell.Cell.{Cell}
use Rattle.hv_value.specs.declared.orders.OrderKey.{OrderKey}
use Rattle.hv_value.specs.Orders.{compare_keys, key_of}
use Rattle.hv_value.specs.Rows.{Row}
use Rattle.hv_sketch.specs.Rising.{rising}
use Rattle.hv_next.specs.declared.summary.NextRow.{NextRow}
use Rattle.hv_next.specs.declared.summary.NextSummary.{NextSummary}

-- whether a row's key is above another; each is where there is no other
abbrev pub is_above : List OrderKey → Option (List Cell) → Row → Bool
is_above keys None row = true
is_above keys (Some after) row = is_gt (compare_keys keys (key_of keys row) after)

-- keys with their numbers of rows compare by their keys
abbrev pub compare_rows : List OrderKey → NextRow → NextRow → Ordering
compare_rows keys x y = compare_keys keys x.key y.key

-- of two equal keys, the one that was there, with the rows of both
abbrev pub added : NextRow → NextRow → NextRow
added new old = record { key = old.key; count = old.count + new.count }

-- a row's key, counted once
abbrev pub one_row : List OrderKey → Row → NextRow
one_row keys row = record { key = key_of keys row; count = 1 }

-- the keys above, of each row in turn, counted once
abbrev pub keys_above : List OrderKey → Option (List Cell) → List Row → List NextRow
keys_above keys after rows = map (one_row keys) (filter (is_above keys after) rows)

-- the different keys above, strictly rising, each with its number of rows
abbrev pub counted_keys : List OrderKey → Option (List Cell) → List Row → List NextRow
counted_keys keys after rows = rising (compare_rows keys) added (keys_above keys after rows)

-- the first k of them, and how many rows aren't above
abbrev pub next_of : List OrderKey → Option (List Cell) → ℕ → List Row → NextSummary
next_of keys after k rows =
    record {
      before = count_by (λ row. not (is_above keys after row)) rows;
      rows = take k (counted_keys keys after rows);
    }

-- the summary is the next rows of at most 2^42 rows
pub record IsNext (keys : List OrderKey) (after : Option (List Cell)) (k : ℕ) (rows : List Row) (summary : NextSummary) : Type 0 where
  pub few : length rows ≤ 2 ^ 42
  pub is : summary ≡ next_of keys after k rows
