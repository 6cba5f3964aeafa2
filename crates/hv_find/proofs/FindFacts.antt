-- What holds of what is found, and what is found with one row more or in two lists of rows.
use Rattle.std.proofs.Common.{◌≡◌, ◌≤◌, ◌++◌, ◌^◌, List, [], ◌∷◌, true, false, refl, sym, ap, length, arith, ◌∙◌, slice_get}
use Rattle.std.specs.Prelude.{IfSome, map, not, filter}
use Rattle.std.specs.Ordering.{match_ordering}
use Rattle.std.specs.declared.cmp.Ordering.{Ordering}
use Rattle.std.specs.declared.cmp.Ordering.TheVariants.{Less, Equal, Greater}
use Rattle.std.proofs.lemmas.List.{append-nil, length-append, length-map}
use Rattle.std.proofs.lemmas.List.Elements.{filter-append}
use Rattle.std.proofs.lemmas.List.Sums.{count_by-le-length, length-filter}
use Rattle.hv_value.specs.declared.orders.OrderKey.{OrderKey}
use Rattle.hv_value.specs.Orders.{compare_keys, key_of}
use Rattle.hv_value.specs.Rows.{Row}
use Rattle.hv_sketch.specs.Merging.{CanMerge}
use Rattle.hv_sketch.specs.Rising.{put, rising}
use Rattle.hv_next.specs.Next.{is_above}
use Rattle.hv_find.specs.Find.{IsFound, is_match, split_at}
use Rattle.hv_find.specs.FindLaws.{find_of-append, find_sum-turn}
use Rattle.hv_find.specs.FindSums.{find_sum}
use Rattle.hv_find.specs.Least.{kept, least_of}
use Rattle.hv_find.specs.declared.find.Find.{Find}
use Rattle.hv_find.specs.declared.summary.FindSummary.{FindSummary}

-- what holds of an element and of the first of a list holds of the first with the element put into it
keeps-put : {X : Type 0} (cmp : X → X → Ordering) (P : X → Type 0) (x : X) (ys : List X) → P x → IfSome (slice_get ys 0) P
    → IfSome (slice_get (put cmp kept x ys) 0) P
keeps-put cmp P x [] one rest = one
keeps-put cmp P x (y ∷ ys) one rest = by (cmp x y)
  where
    by : (o : Ordering) → IfSome (slice_get (match_ordering o (x ∷ y ∷ ys) (y ∷ ys) (y ∷ put cmp kept x ys)) 0) P
    by Less = one
    by Equal = rest
    by Greater = rest

-- the least key of rows has one cell for each key of the order
least-length : (keys : List OrderKey) (rows : List Row) → IfSome (least_of (compare_keys keys) (map (key_of keys) rows)) (λ key. length key ≡ length keys)
least-length keys [] = tt
least-length keys (row ∷ rows) =
    keeps-put (compare_keys keys) (λ key. length key ≡ length keys) (key_of keys row) (rising (compare_keys keys) kept (map (key_of keys) rows))
    (length-map keys _) (least-length keys rows)

module _ (find : Find) (rows : List Row) (s : FindSummary) (h : IsFound find rows s) where
  -- the least key that is found is such a one
  pub found-key : IfSome s.first (λ key. length key ≡ length find.order)
  found-key = rw h.is (least-length find.order (filter (is_above find.order find.after) (filter (is_match find) rows)))

  matching-few : length (filter (is_match find) rows) ≤ 2 ^ 42
  matching-few = omega (arith, length-filter (is_match find) rows, count_by-le-length (is_match find) rows, h.few)

  -- no more rows are above than there are
  pub found-above : s.above ≤ 2 ^ 42
  found-above =
      omega (
        arith,
        ap (λ (t : FindSummary). t.above) h.is,
        count_by-le-length (is_above find.order find.after) (filter (is_match find) rows),
        matching-few,
      )

  -- and no more aren't
  pub found-before : s.before ≤ 2 ^ 42
  found-before =
      omega (
        arith,
        ap (λ (t : FindSummary). t.before) h.is,
        count_by-le-length (λ row. not (is_above find.order find.after row)) (filter (is_match find) rows),
        matching-few,
      )

module _ (find : Find) where
  -- what is found in the rows of both
  pub found-sum : (a b : List Row) (s t u : FindSummary) → IsFound find a s → IsFound find b t → CanMerge a b
      → u ≡ find_sum find.order t s → IsFound find (a ++ b) u
  found-sum a b s t u left right merge is =
      record {
        few = simp length-append merge.few;
        is = is ∙ find_sum-turn find.order t s ∙ (λ i. find_sum find.order (left.is i) (right.is i)) ∙ sym (find_of-append find a b);
      }

  module _ (rows : List Row) (row : Row) (s : FindSummary) (h : IsFound find rows s) (merge : CanMerge rows (row ∷ [])) where
    -- one row more that matches
    pub found-more : (u : FindSummary) → is_match find row ≡ true → u ≡ find_sum find.order (split_at find.order find.after (row ∷ [])) s
        → IsFound find (rows ++ row ∷ []) u
    found-more u e is =
        let one : filter (is_match find) (row ∷ []) ≡ row ∷ [] = rw e refl in
        found-sum rows (row ∷ []) s (split_at find.order find.after (row ∷ [])) u h
        (record { few = omega (arith, merge.few); is = ap (split_at find.order find.after) (sym one) }) merge is

    -- and one that doesn't
    pub found-other : is_match find row ≡ false → IsFound find (rows ++ row ∷ []) s
    found-other e =
        let none : filter (is_match find) (row ∷ []) ≡ [] = rw e refl in
        record {
          few = simp length-append merge.few;
          is =
              h.is ∙ ap (split_at find.order find.after)
              (sym (filter-append (is_match find) rows (row ∷ []) ∙ ap (λ l. filter (is_match find) rows ++ l) none ∙ append-nil (filter (is_match find) rows)));
        }
