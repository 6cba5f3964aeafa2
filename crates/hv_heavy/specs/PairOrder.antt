-- The order of pairs by their values: it is total, and pairs of one value may be joined in any order.
use Rattle.std.proofs.Common.{◌≡◌, ℕ, sym, ap, arith}
use Rattle.std.specs.Cmp.{IsTotalOrder, on_total}
use Rattle.hv_value.specs.declared.cell.Cell.{Cell}
use Rattle.hv_value.specs.CellOrder.{cells_same, cells_total}
use Rattle.hv_value.specs.Order.{compare_cells}
use Rattle.hv_sketch.specs.Rising.{JoinsTies}
use Rattle.hv_heavy.specs.Heavy.{by_value}
use Rattle.hv_heavy.specs.Pairs.{added}
use Rattle.hv_heavy.specs.declared.summary.HeavyPair.{HeavyPair}

pub pairs_total : IsTotalOrder by_value
pairs_total = on_total (λ (pair : HeavyPair). pair.value) cells_total

-- pairs with equal parts are equal
same_pair : (v w : Cell) (m n : ℕ) → v ≡ w → m ≡ n → ◌≡◌ {A = HeavyPair} (record { value = v; estimate = m }) (record { value = w; estimate = n })
same_pair v w m n value estimate = λ i. record { value = value i; estimate = estimate i }

pub added_joins : JoinsTies by_value added
added_joins =
    record {
      same = λ x y z e. ap (λ v. compare_cells v z.value) (sym (cells_same x.value y.value e));
      turn = λ x y e. same_pair _ _ _ _ (sym (cells_same x.value y.value e)) (omega arith);
      regroup = λ x y z e f. same_pair _ _ _ _ (λ i. z.value) (omega arith);
    }
