-- What is found in joined lists of rows, in any order.
use Rattle.std.proofs.Common.{◌≡◌, ◌++◌, ℕ, List, Option, ap, ◌∙◌, arith}
use Rattle.std.specs.Prelude.{map, filter}
use Rattle.std.proofs.lemmas.List.{length-append, map-append}
use Rattle.std.proofs.lemmas.List.Elements.{filter-append}
use Rattle.std.proofs.lemmas.List.Sums.{sum_by-append}
use Rattle.hv_value.specs.declared.cell.Cell.{Cell}
use Rattle.hv_value.specs.declared.orders.OrderKey.{OrderKey}
use Rattle.hv_value.specs.OrderLaws.{keys_same, keys_total}
use Rattle.hv_value.specs.Orders.{compare_keys, key_of}
use Rattle.hv_value.specs.Rows.{Row}
use Rattle.hv_sketch.proofs.Swaps.{sum-swap}
use Rattle.hv_next.specs.Next.{is_above}
use Rattle.hv_find.specs.Find.{IsFound, find_of, is_match, split_at}
use Rattle.hv_find.specs.FindSums.{find_sum}
use Rattle.hv_find.specs.Least.{least_of}
use Rattle.hv_find.specs.LeastLaws.{least-append, lesser-regroup, lesser-turn}
use Rattle.hv_find.specs.declared.find.Find.{Find}
use Rattle.hv_find.specs.declared.summary.FindSummary.{FindSummary}

-- summaries with equal parts are equal
pub same : (k l m n : ℕ) (x y : Option (List Cell)) → k ≡ l → m ≡ n → x ≡ y
    → ◌≡◌ {A = FindSummary} (record { above = k; before = m; first = x }) (record { above = l; before = n; first = y })
same k l m n x y above before first = λ i. record { above = above i; before = before i; first = first i }

pub find_sum-regroup : (keys : List OrderKey) (x y z : FindSummary) → find_sum keys (find_sum keys x y) z ≡ find_sum keys x (find_sum keys y z)
find_sum-regroup keys x y z =
    same _ _ _ _ _ _ (omega arith) (omega arith) (lesser-regroup (compare_keys keys) (keys_total keys) x.first y.first z.first)

pub find_sum-turn : (keys : List OrderKey) (x y : FindSummary) → find_sum keys x y ≡ find_sum keys y x
find_sum-turn keys x y =
    same _ _ _ _ _ _ (omega arith) (omega arith) (lesser-turn (compare_keys keys) (keys_total keys) (keys_same keys) x.first y.first)

-- of joined lists, what is above and what isn't adds up
pub split_at-append : (keys : List OrderKey) (after : Option (List Cell)) (a b : List Row)
    → split_at keys after (a ++ b) ≡ find_sum keys (split_at keys after a) (split_at keys after b)
split_at-append keys after a b =
    same _ _ _ _ _ _ (sum_by-append _ a b) (sum_by-append _ a b)
    (ap (λ rows. least_of (compare_keys keys) (map (key_of keys) rows)) (filter-append (is_above keys after) a b)
    ∙ ap (least_of (compare_keys keys)) (map-append (key_of keys) (filter (is_above keys after) a) (filter (is_above keys after) b))
    ∙ least-append (compare_keys keys) (keys_total keys) (map (key_of keys) (filter (is_above keys after) a)) (map (key_of keys) (filter (is_above keys after) b)))

module _ (find : Find) where
  -- what is found in joined lists is what is found in both
  pub find_of-append : (a b : List Row) → find_of find (a ++ b) ≡ find_sum find.order (find_of find a) (find_of find b)
  find_of-append a b =
      ap (split_at find.order find.after) (filter-append (is_match find) a b)
      ∙ split_at-append find.order find.after (filter (is_match find) a) (filter (is_match find) b)

  -- two blocks at the end may change places
  pub IsFound-swap : (a b c : List Row) (s : FindSummary) → IsFound find (a ++ b ++ c) s → IsFound find (a ++ c ++ b) s
  IsFound-swap a b c s h =
      record {
        few = simp length-append (omega (arith, simp length-append at h.few));
        is = h.is ∙ sum-swap (find_of find) (find_sum find.order) (find_sum-regroup find.order) (find_sum-turn find.order) find_of-append a b c;
      }
