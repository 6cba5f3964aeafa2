-- Tallies of no rows, of one row more, of joined lists of rows and of swapped ones.
use Rattle.std.proofs.Common.{Result, Ok, Err, IfOk, ◌≡◌, ◌≤◌, ◌<◌, ◌+◌, ◌==◌, ◌++◌, ◌^◌, ℕ, List, [], ◌∷◌, refl, sym, ap, length, replicate, get_or, set, arith, ◌∙◌, Bool, true, false, cond, eqb}
use Rattle.std.specs.List.{count_by}
use Rattle.std.proofs.lemmas.Grind.{get_or-set_at}
use Rattle.std.proofs.lemmas.List.FromFn.{fill_by_all, get_or-map-range_with_len, length-map-range_with_len}
use Rattle.std.proofs.lemmas.Bool.{eqb-false, eqb-true}
use Rattle.std.proofs.lemmas.List.Sums.{count_by-le-length, sum_by-append}
use Rattle.std.proofs.lemmas.List.{get_or-replicate, get_or-set_other, length-append, length-replicate, length-set}
use Rattle.hv_value.specs.Rows.{Row}
use Rattle.hv_sketch.specs.Merging.{CanMerge}
use Rattle.hv_sketch.specs.Tally.{IsTally, added, count_in, tally_of}

module _ (slots : ℕ) (slot : Row → ℕ) where
  pub length-tally : (rows : List Row) → length (tally_of slots slot rows) ≡ slots
  length-tally rows = length-map-range_with_len (count_in slot rows) 0 slots

  -- the count at a slot
  pub tally-at : (rows : List Row) (s : ℕ) → s < slots → get_or (tally_of slots slot rows) s 0 ≡ count_in slot rows s
  tally-at rows s within = get_or-map-range_with_len (count_in slot rows) 0 slots s s 0 within (omega arith)

  -- is at most the number of rows
  pub tally-few : (rows : List Row) (s : ℕ) → s < slots → get_or (tally_of slots slot rows) s 0 ≤ length rows
  tally-few rows s within = rw (tally-at rows s within) (count_by-le-length (λ row. slot row == s) rows)

  -- of no rows each is 0
  pub tally-none : replicate slots 0 ≡ tally_of slots slot []
  tally-none = fill_by_all (count_in slot []) (replicate slots 0) slots 0 (length-replicate slots 0) (λ s within. get_or-replicate slots s 0 0 within)

  -- of joined lists they are the sums
  pub tally-append : (a b : List Row) → added (tally_of slots slot a) (tally_of slots slot b) ≡ tally_of slots slot (a ++ b)
  tally-append a b =
      fill_by_all (count_in slot (a ++ b)) (added (tally_of slots slot a) (tally_of slots slot b)) slots 0
      (length-map-range_with_len _ 0 (length (tally_of slots slot a)) ∙ length-tally a)
      (λ s within. get_or-map-range_with_len _ 0 (length (tally_of slots slot a)) s s 0 (rw (length-tally a) within) (omega arith)
      ∙ ap (λ n. n + get_or (tally_of slots slot b) s 0) (tally-at a s within)
      ∙ ap (λ n. count_in slot a s + n) (tally-at b s within)
      ∙ sym (sum_by-append _ a b))

  -- of two blocks swapped they are the same
  pub tally-swap : (a b c : List Row) → tally_of slots slot (a ++ b ++ c) ≡ tally_of slots slot (a ++ c ++ b)
  tally-swap a b c =
      fill_by_all (count_in slot (a ++ c ++ b)) (tally_of slots slot (a ++ b ++ c)) slots 0 (length-tally (a ++ b ++ c))
      (λ s within. tally-at (a ++ b ++ c) s within ∙ turned (λ row. slot row == s))
    where
      three : (p : Row → Bool) (a b c : List Row) → count_by p (a ++ b ++ c) ≡ count_by p a + count_by p b + count_by p c
      three p a b c = sum_by-append _ (a ++ b) c ∙ ap (λ n. n + count_by p c) (sum_by-append _ a b)

      turned : (p : Row → Bool) → count_by p (a ++ b ++ c) ≡ count_by p (a ++ c ++ b)
      turned p = omega (arith, three p a b c, three p a c b)

  -- one row more in a count
  count-more : (rows : List Row) (row : Row) (s : ℕ) → count_in slot (rows ++ row ∷ []) s ≡ count_in slot rows s + (0 + cond (eqb (slot row) s) 1 0)
  count-more rows row s = sum_by-append _ rows (row ∷ [])

  -- it adds one to the count of its slot, and leaves the others
  pub tally-more : (rows : List Row) (row : Row) (at : ℕ) → at ≡ slot row → at < slots
      → set (tally_of slots slot rows) at (get_or (tally_of slots slot rows) at 0 + 1) ≡ tally_of slots slot (rows ++ row ∷ [])
  tally-more rows row at is within =
      fill_by_all (count_in slot (rows ++ row ∷ [])) (set (tally_of slots slot rows) at (get_or (tally_of slots slot rows) at 0 + 1)) slots 0
      (length-set (tally_of slots slot rows) at (get_or (tally_of slots slot rows) at 0 + 1) ∙ length-tally rows)
      (λ s below. by s below (eqb (slot row) s) refl)
    where
      by : (s : ℕ) → s < slots → (b : Bool) → eqb (slot row) s ≡ b
          → get_or (set (tally_of slots slot rows) at (get_or (tally_of slots slot rows) at 0 + 1)) s 0 ≡ count_in slot (rows ++ row ∷ []) s
      by s below true e =
          let same : at ≡ s = is ∙ eqb-true (slot row) s e in
          get_or-set_at (tally_of slots slot rows) at s (get_or (tally_of slots slot rows) at 0 + 1) 0 (sym same) (rw (length-tally rows) within)
          ∙ ap (λ k. get_or (tally_of slots slot rows) k 0 + 1) same ∙ ap (λ n. n + 1) (tally-at rows s below)
          ∙ sym (count-more rows row s ∙ ap (λ b. count_in slot rows s + (0 + cond b 1 0)) e)
      by s below false e =
          get_or-set_other (tally_of slots slot rows) at s (get_or (tally_of slots slot rows) at 0 + 1) 0 (λ same. eqb-false (slot row) s e (sym is ∙ sym same))
          ∙ tally-at rows s below
          ∙ sym (count-more rows row s ∙ ap (λ b. count_in slot rows s + (0 + cond b 1 0)) e ∙ omega arith)

module _ (slots : ℕ) (slot : Row → ℕ) where
  -- counts of 0 are those of no rows
  pub empty_is : {E : Type 0} (made : Result (List ℕ) E) (n : ℕ) → n ≡ slots → IfOk made (λ counts. counts ≡ replicate n 0)
      → IfOk made (λ counts. IsTally slots slot [] counts)
  empty_is (Ok counts) n e is = record { few = omega arith; is = is ∙ ap (λ n. replicate n 0) e ∙ tally-none slots slot }
  empty_is (Err cause) n e is = tt

  pub length-counts : (rows : List Row) (counts : List ℕ) → IsTally slots slot rows counts → length counts ≡ slots
  length-counts rows counts h = ap length h.is ∙ length-tally slots slot rows

  -- each count is at most 2^42
  pub count-few : (rows : List Row) (counts : List ℕ) (s : ℕ) → IsTally slots slot rows counts → s < slots → get_or counts s 0 ≤ 2 ^ 42
  count-few rows counts s h within = omega (arith, h.few, ap (λ l. get_or l s 0) h.is, tally-few slots slot rows s within)

  -- one row more
  pub IsTally-more : (rows : List Row) (row : Row) (counts : List ℕ) (at : ℕ) → IsTally slots slot rows counts
      → CanMerge rows (row ∷ []) → at ≡ slot row → at < slots → IsTally slots slot (rows ++ row ∷ []) (set counts at (get_or counts at 0 + 1))
  IsTally-more rows row counts at h merge is within =
      record {
        few = simp length-append merge.few;
        is = ap (λ l. set l at (get_or l at 0 + 1)) h.is ∙ tally-more slots slot rows row at is within;
      }

  -- the sums of two counts fit
  pub sum-fits : (a b : List Row) (x y : List ℕ) (s : ℕ) → IsTally slots slot a x → IsTally slots slot b y → s < length x
      → get_or x s 0 + get_or y s 0 < 2 ^ 64
  sum-fits a b x y s left right within =
      let below : s < slots = omega (arith, within, length-counts a x left) in
      omega (arith, count-few a x s left below, count-few b y s right below)

  -- and are those of the joined lists
  pub IsTally-sum : (a b : List Row) (x y : List ℕ) → IsTally slots slot a x → IsTally slots slot b y → CanMerge a b
      → IsTally slots slot (a ++ b) (added x y)
  IsTally-sum a b x y left right merge =
      record {
        few = simp length-append merge.few;
        is = rw (left.is, right.is) (tally-append slots slot a b);
      }

  -- two blocks at the end may change places
  pub IsTally-swap : (a b c : List Row) (counts : List ℕ) → IsTally slots slot (a ++ b ++ c) counts → IsTally slots slot (a ++ c ++ b) counts
  IsTally-swap a b c counts h =
      record {
        few = simp length-append (omega (arith, simp length-append at h.few));
        is = h.is ∙ tally-swap slots slot a b c;
      }
