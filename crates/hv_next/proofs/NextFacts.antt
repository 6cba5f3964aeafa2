-- The next rows of one row more, and what holds of their keys.
use Rattle.std.proofs.Common.{◌≡◌, ◌<◌, ◌≤◌, ◌+◌, ◌-◌, ◌++◌, ◌^◌, ℕ, zero, suc, List, [], ◌∷◌, true, false, Option, None, Some, refl, sym, ap, length, get_or, take, arith, ◌∙◌}
use Rattle.std.specs.Prelude.{map, not, filter, count_by}
use Rattle.std.specs.List.{All, Contains}
use Rattle.std.specs.Ordering.{is_gt, match_ordering}
use Rattle.std.specs.declared.cmp.Ordering.{Ordering}
use Rattle.std.specs.declared.cmp.Ordering.TheVariants.{Less, Equal, Greater}
use Rattle.std.proofs.lemmas.List.{length-append, length-map, length-take}
use Rattle.std.proofs.lemmas.List.Elements.{All-map, filter_passes}
use Rattle.std.proofs.lemmas.List.Sums.{count_by-le-length, length-filter}
use Rattle.hv_value.specs.declared.cell.Cell.{Cell}
use Rattle.hv_value.specs.declared.orders.OrderKey.{OrderKey}
use Rattle.hv_value.specs.OrderLaws.{keys_total}
use Rattle.hv_value.specs.Orders.{compare_keys, key_of}
use Rattle.hv_value.specs.Rows.{Row}
use Rattle.hv_sketch.specs.Merging.{CanMerge}
use Rattle.hv_sketch.specs.Rising.{IsRising, put, rising}
use Rattle.hv_sketch.proofs.Least.{rising-more, rising-rises, take-put, take-rises}
use Rattle.hv_next.specs.AddKey.{AreKept, IsPast, with_key}
use Rattle.hv_next.specs.KeyOrder.{added_joins, rows_total}
use Rattle.hv_next.specs.Next.{IsNext, added, compare_rows, counted_keys, is_above, keys_above, one_row}
use Rattle.hv_next.specs.NextLaws.{before-append, keys-append, next_of-append, same}
use Rattle.hv_next.specs.NextSums.{CanAdd, next_sum}
use Rattle.hv_next.specs.declared.summary.NextRow.{NextRow}
use Rattle.hv_next.specs.declared.summary.NextSummary.{NextSummary}
use Rattle.hv_next.proofs.EachKey.{each-least}
use Rattle.hv_next.proofs.PlaceFacts.{above-above, is-greater, put-out}

-- how many rows keys have in all
abbrev total : List NextRow → ℕ
total [] = 0
total (x ∷ xs) = x.count + total xs

module _ (keys : List OrderKey) where
  total-put : (x : NextRow) (ys : List NextRow) → total (put (compare_rows keys) added x ys) ≡ x.count + total ys
  total-put x [] = refl
  total-put x (y ∷ ys) = by (compare_rows keys x y) (total-put x ys)
    where
      by : (o : Ordering) → total (put (compare_rows keys) added x ys) ≡ x.count + total ys
          → total (match_ordering o (x ∷ y ∷ ys) (added x y ∷ ys) (y ∷ put (compare_rows keys) added x ys)) ≡ x.count + (y.count + total ys)
      by Less e = refl
      by Equal e = omega arith
      by Greater e = omega (arith, e)

  total-rising : (xs : List NextRow) → total (rising (compare_rows keys) added xs) ≡ total xs
  total-rising [] = refl
  total-rising (x ∷ xs) = total-put x (rising (compare_rows keys) added xs) ∙ ap (λ n. x.count + n) (total-rising xs)

  total-take : (k : ℕ) (xs : List NextRow) → total (take k xs) ≤ total xs
  total-take zero xs = omega arith
  total-take (suc k) [] = omega arith
  total-take (suc k) (x ∷ xs) = omega (arith, total-take k xs)

  total-ones : (rows : List Row) → total (map (one_row keys) rows) ≡ length rows
  total-ones [] = refl
  total-ones (row ∷ rows) = omega (arith, total-ones rows)

  -- an element's rows are among all
  one-of-total : (xs : List NextRow) (i : ℕ) (d : NextRow) → i < length xs → (get_or xs i d).count ≤ total xs
  one-of-total [] i d within = absurd (omega (arith, within))
  one-of-total (x ∷ xs) zero d within = omega arith
  one-of-total (x ∷ xs) (suc i) d within = omega (arith, one-of-total xs i d (omega (arith, within)))

-- a row whose key is above that of a row above is above
later-above : (keys : List OrderKey) (after : Option (List Cell)) (row found : Row) → is_above keys after row ≡ true
    → compare_keys keys (key_of keys found) (key_of keys row) ≡ Greater → is_above keys after found ≡ true
later-above keys None row found above later = refl
later-above keys (Some key) row found above later =
    ap is_gt (above-above (compare_keys keys) (keys_total keys) (key_of keys found) (key_of keys row) key later (is-greater _ above))

module _ (keys : List OrderKey) (after : Option (List Cell)) (k : ℕ) where
  module _ (rows : List Row) (s : NextSummary) (h : IsNext keys after k rows s) where
    -- the keys rise
    pub next-rises : IsRising (compare_rows keys) s.rows
    next-rises =
        rw h.is (take-rises (compare_rows keys) added (rows_total keys) (added_joins keys) k (counted_keys keys after rows)
        (rising-rises (compare_rows keys) added (rows_total keys) (added_joins keys) (keys_above keys after rows)))

    -- each has at most as many rows as there are
    pub next-count : (i : ℕ) (d : NextRow) → i < length s.rows → (get_or s.rows i d).count ≤ 2 ^ 42
    next-count i d within =
        omega (
          arith,
          one-of-total keys s.rows i d within,
          ap (λ (t : NextSummary). total t.rows) h.is,
          total-take keys k (counted_keys keys after rows),
          total-rising keys (keys_above keys after rows),
          total-ones keys (filter (is_above keys after) rows),
          length-filter (is_above keys after) rows,
          count_by-le-length (is_above keys after) rows,
          h.few,
        )

    -- and as many aren't above
    pub next-before : s.before ≤ 2 ^ 42
    next-before =
        omega (arith, ap (λ (t : NextSummary). t.before) h.is, count_by-le-length (λ row. not (is_above keys after row)) rows, h.few)

    -- what holds of the key of each row above holds of each
    next-each : (P : List Cell → Type 0) → All (λ row. P (key_of keys row)) (filter (is_above keys after) rows)
        → All (λ (kept : NextRow). P kept.key) s.rows
    next-each P all = rw h.is (each-least keys P k (keys_above keys after rows) (All-map (λ (kept : NextRow). P kept.key) (one_row keys) _ all))

    -- a row whose key is above one of them is above
    next-later : All (λ kept. (found : Row) → compare_rows keys (one_row keys found) kept ≡ Greater → is_above keys after found ≡ true) s.rows
    next-later =
        next-each (λ key. (found : Row) → compare_keys keys (key_of keys found) key ≡ Greater → is_above keys after found ≡ true)
        (λ i d within found. later-above keys after (get_or (filter (is_above keys after) rows) i d) found (filter_passes (is_above keys after) rows i d within))

    pub next-kept : AreKept keys k s.rows
    next-kept =
        record {
          rising = next-rises;
          one_each = next-each (λ key. length key ≡ length keys) (λ i d within. length-map keys _);
          few = omega (arith, ap (λ (t : NextSummary). length t.rows) h.is, length-take k (counted_keys keys after rows));
          room = λ i d within. omega (arith, next-count i d within);
        }

  -- two keys of apart rows may be joined
  pub next-can_add : (a b : List Row) (s t : NextSummary) → IsNext keys after k a s → IsNext keys after k b t
      → (x y : NextRow) → Contains s.rows x → Contains t.rows y → CanAdd x y
  next-can_add a b s t left right x y first second =
      omega (
        arith,
        next-count a s left first.0 x first.1,
        ap (λ (r : NextRow). r.count) first.2,
        next-count b t right second.0 y second.1,
        ap (λ (r : NextRow). r.count) second.2,
      )

  -- the next rows of the rows of both
  pub next-sum : (a b : List Row) (s t u : NextSummary) → IsNext keys after k a s → IsNext keys after k b t → CanMerge a b
      → u ≡ next_sum keys k s t → IsNext keys after k (a ++ b) u
  next-sum a b s t u left right merge is =
      record {
        few = simp length-append merge.few;
        is = is ∙ (λ i. next_sum keys k (left.is i) (right.is i)) ∙ sym (next_of-append keys after k a b);
      }

  module _ (rows : List Row) (row : Row) (s : NextSummary) (h : IsNext keys after k rows s) (merge : CanMerge rows (row ∷ [])) where
    -- one row more that isn't above
    pub next-below : is_above keys after row ≡ false → IsNext keys after k (rows ++ row ∷ []) (record { before = s.before + 1; rows = s.rows })
    next-below e =
        let one : count_by (λ r. not (is_above keys after r)) (row ∷ []) ≡ 1 = rw e refl in
        let none : keys_above keys after (row ∷ []) ≡ [] = rw e refl in
        record {
          few = simp length-append merge.few;
          is =
              same _ _ _ _ (omega (arith, ap (λ (t : NextSummary). t.before) h.is, before-append keys after rows (row ∷ []), one))
              (ap (λ (t : NextSummary). t.rows) h.is ∙ ap (λ l. take k (rising (compare_rows keys) added l))
              (sym (keys-append keys after rows (row ∷ []) ∙ ap (λ l. keys_above keys after rows ++ l) none ∙ append-none (keys_above keys after rows))));
        }
      where
        append-none : (xs : List NextRow) → xs ++ [] ≡ xs
        append-none [] = refl
        append-none (x ∷ xs) = ap (λ l. x ∷ l) (append-none xs)

    -- and one that is
    pub next-above : (new : List NextRow) → is_above keys after row ≡ true → new ≡ take k (with_key keys (one_row keys row) s.rows)
        → IsNext keys after k (rows ++ row ∷ []) (record { before = s.before; rows = new })
    next-above new e is =
        let none : count_by (λ r. not (is_above keys after r)) (row ∷ []) ≡ 0 = rw e refl in
        let one : keys_above keys after (row ∷ []) ≡ one_row keys row ∷ [] = rw e refl in
        let old = keys_above keys after rows in
        record {
          few = simp length-append merge.few;
          is =
              same _ _ _ _ (omega (arith, ap (λ (t : NextSummary). t.before) h.is, before-append keys after rows (row ∷ []), none))
              (is ∙ ap (λ (t : NextSummary). take k (with_key keys (one_row keys row) t.rows)) h.is
              ∙ sym (take-put (compare_rows keys) added k (one_row keys row) (counted_keys keys after rows))
              ∙ ap (take k) (sym (rising-more (compare_rows keys) added (rows_total keys) (added_joins keys) old (one_row keys row)))
              ∙ ap (λ l. take k (rising (compare_rows keys) added l)) (sym (keys-append keys after rows (row ∷ []) ∙ ap (λ l. old ++ l) one)));
        }

    -- and one whose key is above all of as many as are kept
    pub next-past : IsPast keys k (one_row keys row) s.rows → IsNext keys after k (rows ++ row ∷ []) s
    next-past past =
        let mine = one_row keys row in
        let last = length s.rows - 1 in
        let within : last < length s.rows = omega (arith, past.some) in
        let late = past.above last mine within in
        next-above s.rows (next-later rows s h last mine within row late)
        (sym (put-out (compare_rows keys) (rows_total keys) added mine s.rows (next-rises rows s h) k last mine past.full (omega (arith, past.some)) late))
