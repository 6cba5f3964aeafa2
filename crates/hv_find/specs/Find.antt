-- What a search for a text finds in a list of rows: this project's own rule.
use Rattle.std.specs.Prelude.{◌≡◌, ◌≤◌, ◌^◌, List, Bool, Option, length, map, not, filter, count_by}
use Rattle.std.specs.List.{list_any}
use Rattle.hv_value.specs.declared.cell.Cell.{Cell}
use Rattle.hv_value.specs.declared.orders.OrderKey.{OrderKey}
use Rattle.hv_value.specs.Cells.{cell_at}
use Rattle.hv_value.specs.Orders.{compare_keys, key_of}
use Rattle.hv_value.specs.Rows.{Row}
use Rattle.hv_expr.specs.Holds.{cell_meets}
use Rattle.hv_next.specs.Next.{is_above}
use Rattle.hv_find.specs.Least.{least_of}
use Rattle.hv_find.specs.declared.find.Find.{Find}
use Rattle.hv_find.specs.declared.summary.FindSummary.{FindSummary}

-- whether one of the named cells of a row is a text that meets the test
abbrev pub is_match : Find → Row → Bool
is_match find row = list_any (λ col. cell_meets find.test (cell_at row.cells col)) find.cols

-- of some rows, how many are above a key, how many aren't, and the least key of those that are
abbrev pub split_at : List OrderKey → Option (List Cell) → List Row → FindSummary
split_at keys after rows =
    record {
      above = count_by (is_above keys after) rows;
      before = count_by (λ row. not (is_above keys after row)) rows;
      first = least_of (compare_keys keys) (map (key_of keys) (filter (is_above keys after) rows));
    }

-- the same of the rows that match
abbrev pub find_of : Find → List Row → FindSummary
find_of find rows = split_at find.order find.after (filter (is_match find) rows)

-- the summary is what is found in at most 2^42 rows
pub record IsFound (find : Find) (rows : List Row) (summary : FindSummary) : Type 0 where
  pub few : length rows ≤ 2 ^ 42
  pub is : summary ≡ find_of find rows
