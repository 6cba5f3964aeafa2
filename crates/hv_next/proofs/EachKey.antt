-- What holds of each of some keys holds of each that is in their rising list, and of the least of them.
use Rattle.std.proofs.Common.{ℕ, List, [], ◌∷◌, take}
use Rattle.std.specs.List.{All, AllByRecursion}
use Rattle.std.specs.Ordering.{match_ordering}
use Rattle.std.specs.declared.cmp.Ordering.{Ordering}
use Rattle.std.specs.declared.cmp.Ordering.TheVariants.{Less, Equal, Greater}
use Rattle.std.proofs.lemmas.List.Elements.{All-from_recursion, All-take, recursion_from_All}
use Rattle.hv_value.specs.declared.cell.Cell.{Cell}
use Rattle.hv_value.specs.declared.orders.OrderKey.{OrderKey}
use Rattle.hv_sketch.specs.Rising.{put, rising}
use Rattle.hv_next.specs.Next.{added, compare_rows}
use Rattle.hv_next.specs.declared.summary.NextRow.{NextRow}

module _ (keys : List OrderKey) (P : List Cell → Type 0) where
  abbrev OfKey : NextRow → Type 0
  OfKey row = P row.key

  each-put : (x : NextRow) (ys : List NextRow) → P x.key → AllByRecursion OfKey ys → AllByRecursion OfKey (put (compare_rows keys) added x ys)
  each-put x [] one all = (one, tt)
  each-put x (y ∷ ys) one all = by (compare_rows keys x y) (each-put x ys one all.1)
    where
      by : (o : Ordering) → AllByRecursion OfKey (put (compare_rows keys) added x ys)
          → AllByRecursion OfKey (match_ordering o (x ∷ y ∷ ys) (added x y ∷ ys) (y ∷ put (compare_rows keys) added x ys))
      by Less more = (one, all)
      by Equal more = (all.0, all.1)
      by Greater more = (all.0, more)

  each-rising : (xs : List NextRow) → AllByRecursion OfKey xs → AllByRecursion OfKey (rising (compare_rows keys) added xs)
  each-rising [] all = tt
  each-rising (x ∷ xs) all = each-put x (rising (compare_rows keys) added xs) all.0 (each-rising xs all.1)

  pub each-least : (k : ℕ) (xs : List NextRow) → All OfKey xs → All OfKey (take k (rising (compare_rows keys) added xs))
  each-least k xs all =
      let listed = rising (compare_rows keys) added xs in
      All-take OfKey k listed (All-from_recursion OfKey listed (each-rising xs (recursion_from_All OfKey xs all)))
