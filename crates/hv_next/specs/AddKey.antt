-- A row's key put to those that are kept.
use Rattle.std.specs.Prelude.{◌≡◌, ◌≤◌, ◌<◌, ◌+◌, ◌^◌, ℕ, List, Result, Ok, Err, length, get_or, slice_set}
use Rattle.std.specs.List.{All, insert}
use Rattle.std.specs.declared.cmp.Ordering.TheVariants.{Greater}
use Rattle.hv_value.specs.declared.orders.OrderKey.{OrderKey}
use Rattle.hv_sketch.specs.Rising.{IsRising, put}
use Rattle.hv_next.specs.Next.{added, compare_rows}
use Rattle.hv_next.specs.declared.summary.NextRow.{NextRow}

-- the keys rise strictly, each of one cell for each key of the order; there are at most k, and each may be counted once more
pub record AreKept (keys : List OrderKey) (k : ℕ) (rows : List NextRow) : Type 0 where
  pub rising : IsRising (compare_rows keys) rows
  pub one_each : All (λ row. length row.key ≡ length keys) rows
  pub few : length rows ≤ k
  pub room : All (λ row. row.count + 1 < 2 ^ 64) rows

-- there are k keys, at least one, and another is above each of them
pub record IsPast (keys : List OrderKey) (k : ℕ) (row : NextRow) (rows : List NextRow) : Type 0 where
  pub full : length rows ≡ k
  pub some : 0 < length rows
  pub above : All (λ kept. compare_rows keys row kept ≡ Greater) rows

-- the keys with one more
abbrev pub with_key : List OrderKey → NextRow → List NextRow → List NextRow
with_key keys row rows = put (compare_rows keys) added row rows

-- the place of the key that ties with another, or else the one before which that would stand
abbrev pub IsPlace : List OrderKey → NextRow → List NextRow → Result ℕ ℕ → Type 0
IsPlace keys row rows (Ok place) = with_key keys row rows ≡ slice_set rows place (added row (get_or rows place row))
IsPlace keys row rows (Err place) = with_key keys row rows ≡ insert rows place row
