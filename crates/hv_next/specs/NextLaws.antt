-- The next rows of joined lists of rows, in any order.
use Rattle.std.proofs.Common.{◌≡◌, ◌+◌, ◌++◌, ℕ, List, Option, sym, ap, ◌∙◌, arith}
use Rattle.std.specs.Prelude.{Bool, map, not, filter, count_by, take}
use Rattle.std.proofs.lemmas.List.{length-append, map-append}
use Rattle.std.proofs.lemmas.List.Elements.{filter-append}
use Rattle.std.proofs.lemmas.List.Sums.{sum_by-append}
use Rattle.hv_value.specs.declared.cell.Cell.{Cell}
use Rattle.hv_value.specs.declared.orders.OrderKey.{OrderKey}
use Rattle.hv_value.specs.Rows.{Row}
use Rattle.hv_sketch.proofs.Least.{least-of_joined, rising-swap}
use Rattle.hv_sketch.specs.Rising.{rising}
use Rattle.hv_next.specs.KeyOrder.{added_joins, rows_total}
use Rattle.hv_next.specs.Next.{IsNext, added, compare_rows, is_above, keys_above, next_of, one_row}
use Rattle.hv_next.specs.NextSums.{next_sum}
use Rattle.hv_next.specs.declared.summary.NextRow.{NextRow}
use Rattle.hv_next.specs.declared.summary.NextSummary.{NextSummary}

-- summaries with equal parts are equal
pub same : (m n : ℕ) (v w : List NextRow) → m ≡ n → v ≡ w → ◌≡◌ {A = NextSummary} (record { before = m; rows = v }) (record { before = n; rows = w })
same m n v w before rows = λ i. record { before = before i; rows = rows i }

module _ (keys : List OrderKey) (after : Option (List Cell)) where
  abbrev is_before : Row → Bool
  is_before row = not (is_above keys after row)

  -- the keys of joined lists are the joined keys
  pub keys-append : (a b : List Row) → keys_above keys after (a ++ b) ≡ keys_above keys after a ++ keys_above keys after b
  keys-append a b =
      ap (map (one_row keys)) (filter-append (is_above keys after) a b)
      ∙ map-append (one_row keys) (filter (is_above keys after) a) (filter (is_above keys after) b)

  keys-three : (a b c : List Row)
      → keys_above keys after (a ++ b ++ c) ≡ keys_above keys after a ++ keys_above keys after b ++ keys_above keys after c
  keys-three a b c = keys-append (a ++ b) c ∙ ap (λ l. l ++ keys_above keys after c) (keys-append a b)

  pub before-append : (a b : List Row) → count_by is_before (a ++ b) ≡ count_by is_before a + count_by is_before b
  before-append a b = sum_by-append _ a b

  before-three : (a b c : List Row) → count_by is_before (a ++ b ++ c) ≡ count_by is_before a + count_by is_before b + count_by is_before c
  before-three a b c = before-append (a ++ b) c ∙ ap (λ n. n + count_by is_before c) (before-append a b)

  -- the next rows of joined lists are those of both joined
  pub next_of-append : (k : ℕ) (a b : List Row) → next_of keys after k (a ++ b) ≡ next_sum keys k (next_of keys after k a) (next_of keys after k b)
  next_of-append k a b =
      same _ _ _ _ (before-append a b)
      (ap (λ l. take k (rising (compare_rows keys) added l)) (keys-append a b)
      ∙ least-of_joined (compare_rows keys) added (rows_total keys) (added_joins keys) k (keys_above keys after a) (keys_above keys after b))

  -- two blocks at the end may change places
  next_of-swap : (k : ℕ) (a b c : List Row) → next_of keys after k (a ++ b ++ c) ≡ next_of keys after k (a ++ c ++ b)
  next_of-swap k a b c =
      same _ _ _ _ (omega (arith, before-three a b c, before-three a c b))
      (ap (take k)
      (ap (rising (compare_rows keys) added) (keys-three a b c)
      ∙ rising-swap (compare_rows keys) added (rows_total keys) (added_joins keys) (keys_above keys after a) (keys_above keys after b) (keys_above keys after c)
      ∙ ap (rising (compare_rows keys) added) (sym (keys-three a c b))))

  pub IsNext-swap : (k : ℕ) (a b c : List Row) (s : NextSummary) → IsNext keys after k (a ++ b ++ c) s → IsNext keys after k (a ++ c ++ b) s
  IsNext-swap k a b c s h =
      record {
        few = simp length-append (omega (arith, simp length-append at h.few));
        is = h.is ∙ next_of-swap k a b c;
      }
