-- Counts of joined lists of cells, and heavy hitters of lists in any order.
use Rattle.std.proofs.Common.{◌≡◌, ◌≤◌, ◌+◌, ◌-◌, ◌*◌, ◌++◌, ℕ, List, subst, ap, ◌∙◌, arith, length}
use Rattle.std.specs.Prelude.{not, count_by}
use Rattle.std.proofs.lemmas.List.{length-append}
use Rattle.std.proofs.lemmas.List.Elements.{filter-append}
use Rattle.std.proofs.lemmas.List.Sums.{sum_by-append}
use Rattle.hv_value.specs.declared.cell.Cell.{Cell}
use Rattle.hv_value.specs.Rows.{Row}
use Rattle.hv_sketch.proofs.ColumnFacts.{cells-three}
use Rattle.hv_sketch.specs.ColumnCells.{cells_in, is_missing}
use Rattle.hv_heavy.specs.Heavy.{IsHeavy, IsHeavyOf, IsNear, count_of, estimate, is_same, total, values_of}
use Rattle.hv_heavy.specs.declared.summary.HeavyPair.{HeavyPair}
use Rattle.hv_heavy.specs.declared.summary.HeavySummary.{HeavySummary}

-- the values of joined lists are the joined values
pub values-append : (a b : List Cell) → values_of (a ++ b) ≡ values_of a ++ values_of b
values-append a b = filter-append (λ c. not (is_missing c)) a b

-- how many there are
pub number-append : (a b : List Cell) → length (values_of (a ++ b)) ≡ length (values_of a) + length (values_of b)
number-append a b = ap length (values-append a b) ∙ simp length-append

-- how many are a value
pub count-append : (a b : List Cell) (value : Cell) → count_of (a ++ b) value ≡ count_of a value + count_of b value
count-append a b value = ap (count_by (is_same value)) (values-append a b) ∙ sum_by-append _ (values_of a) (values_of b)

-- how many cells are missing
pub missing-append : (a b : List Cell) → count_by is_missing (a ++ b) ≡ count_by is_missing a + count_by is_missing b
missing-append a b = sum_by-append _ a b

-- the bounds hold of counts that are the same
pub IsNear-moved : (k m n : ℕ) (f g : Cell → ℕ) (pairs : List HeavyPair) → m ≡ n → ((value : Cell) → f value ≡ g value) → IsNear k m f pairs → IsNear k n g pairs
IsNear-moved k m n f g pairs number same h =
    record {
      low = λ value. subst (λ c. estimate pairs value ≤ c) (same value) (h.low value);
      near =
          λ value. subst (λ c. (k + 1) * (c - estimate pairs value) + total pairs ≤ n) (same value)
          (subst (λ most. (k + 1) * (f value - estimate pairs value) + total pairs ≤ most) number (h.near value));
    }

module _ (k : ℕ) (a b c : List Cell) (s : HeavySummary) where
  -- two blocks of cells at the end may change places
  heavy-swap : IsHeavyOf k (a ++ b ++ c) s → IsHeavyOf k (a ++ c ++ b) s
  heavy-swap h =
      let number : length (values_of (a ++ b ++ c)) ≡ length (values_of (a ++ c ++ b)) =
      omega (arith, number-append (a ++ b) c, number-append a b, number-append (a ++ c) b, number-append a c) in
      let missing : count_by is_missing (a ++ b ++ c) ≡ count_by is_missing (a ++ c ++ b) =
      omega (arith, missing-append (a ++ b) c, missing-append a b, missing-append (a ++ c) b, missing-append a c) in
      record {
        few = simp length-append (omega (arith, simp length-append at h.few));
        n = h.n ∙ number;
        missing = h.missing ∙ missing;
        pairs =
            record {
              rises = h.pairs.rises;
              some = h.pairs.some;
              few = h.pairs.few;
              near = IsNear-moved k _ _ _ _ s.pairs number counts h.pairs.near;
            };
      }
    where
      counts : (value : Cell) → count_of (a ++ b ++ c) value ≡ count_of (a ++ c ++ b) value
      counts value = omega (arith, count-append (a ++ b) c value, count-append a b value, count-append (a ++ c) b value, count-append a c value)

-- and so may two blocks of rows
pub IsHeavy-swap : (col k : ℕ) (a b c : List Row) (s : HeavySummary) → IsHeavy col k (a ++ b ++ c) s → IsHeavy col k (a ++ c ++ b) s
IsHeavy-swap col k a b c s h =
    rw (cells-three col a c b)
    (heavy-swap k (cells_in col a) (cells_in col b) (cells_in col c) s
    (subst (λ cells. IsHeavyOf k cells s) (cells-three col a b c) h))
