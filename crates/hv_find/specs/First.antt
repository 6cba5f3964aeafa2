-- The least key of some rows, said by what it is: this project's own rule.
use Rattle.std.specs.Prelude.{◌≡◌, ◌≢◌, List, [], Option, Some, None, map, filter}
use Rattle.std.specs.List.{AllByRecursion, Contains}
use Rattle.std.specs.declared.cmp.Ordering.TheVariants.{Less}
use Rattle.hv_value.specs.declared.cell.Cell.{Cell}
use Rattle.hv_value.specs.declared.orders.OrderKey.{OrderKey}
use Rattle.hv_value.specs.Orders.{compare_keys, key_of}
use Rattle.hv_value.specs.Rows.{Row}
use Rattle.hv_next.specs.Next.{is_above}
use Rattle.hv_find.specs.Find.{is_match}
use Rattle.hv_find.specs.declared.find.Find.{Find}

-- the rows that match and are above
abbrev pub matches_above : Find → List Row → List Row
matches_above find rows = filter (is_above find.order find.after) (filter (is_match find) rows)

-- the key of one of the rows, below which no row's key is; none where there is no row
abbrev pub IsLeastKey : List OrderKey → List Row → Option (List Cell) → Type 0
IsLeastKey keys rows None = rows ≡ []
IsLeastKey keys rows (Some key) = Contains (map (key_of keys) rows) key × AllByRecursion (λ row. compare_keys keys (key_of keys row) key ≢ Less) rows
