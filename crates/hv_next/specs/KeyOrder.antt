-- The order of keys with their numbers of rows: it is total, and equal keys may be joined in any order.
use Rattle.std.proofs.Common.{◌≡◌, ℕ, List, sym, ap, arith}
use Rattle.std.specs.Cmp.{IsTotalOrder, on_total}
use Rattle.hv_value.specs.declared.cell.Cell.{Cell}
use Rattle.hv_value.specs.declared.orders.OrderKey.{OrderKey}
use Rattle.hv_value.specs.OrderLaws.{keys_same, keys_total}
use Rattle.hv_value.specs.Orders.{compare_keys}
use Rattle.hv_sketch.specs.Rising.{JoinsTies}
use Rattle.hv_next.specs.Next.{added, compare_rows}
use Rattle.hv_next.specs.declared.summary.NextRow.{NextRow}

pub rows_total : (keys : List OrderKey) → IsTotalOrder (compare_rows keys)
rows_total keys = on_total (λ (row : NextRow). row.key) (keys_total keys)

-- keys with equal parts are equal
pub same_row : (k l : List Cell) (m n : ℕ) → k ≡ l → m ≡ n → ◌≡◌ {A = NextRow} (record { key = k; count = m }) (record { key = l; count = n })
same_row k l m n key count = λ i. record { key = key i; count = count i }

pub added_joins : (keys : List OrderKey) → JoinsTies (compare_rows keys) added
added_joins keys =
    record {
      same = λ x y z e. ap (λ k. compare_keys keys k z.key) (sym (keys_same keys x.key y.key e));
      turn = λ x y e. same_row _ _ _ _ (sym (keys_same keys x.key y.key e)) (omega arith);
      regroup = λ x y z e f. same_row _ _ _ _ (λ i. z.key) (omega arith);
    }
