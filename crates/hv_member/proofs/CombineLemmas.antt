-- What the combinations of two members of one size are, from the lists that both keep.
use Rattle.std.proofs.Common.{◌≡◌, ℕ, ◌+◌, Bool, true, false, not, ◌&&◌, ◌||◌, List, length, refl, ap, ◌∙◌, subst, arith}
use Rattle.hv_member.specs.Member.{RowSet}
use Rattle.hv_member.specs.Sets.{is_in, IsRising, common, joined, minus}
use Rattle.hv_member.proofs.MembershipLemmas.{is_in-common, is_in-joined, is_in-minus}
use Rattle.hv_member.proofs.CountLemmas.{length-common_minus, length-joined_common}
use Rattle.hv_member.proofs.KeptLemmas.{Opened}

and_swap : (a b : Bool) → (a && b) ≡ (b && a)
and_swap true true = refl
and_swap true false = refl
and_swap false true = refl
and_swap false false = refl

-- the clauses of `and`
pub record IsAnd (left right made : RowSet) : Type 0 where
  pub rows : made ≡ record left { rows = common left.rows right.rows }
  pub members : (row : ℕ) → is_in row made.rows ≡ (is_in row left.rows && is_in row right.rows)
  pub count : length made.rows + length (minus left.rows right.rows) ≡ length left.rows

-- those of `or`
pub record IsOr (left right made : RowSet) : Type 0 where
  pub rows : made ≡ record left { rows = joined left.rows right.rows }
  pub members : (row : ℕ) → is_in row made.rows ≡ (is_in row left.rows || is_in row right.rows)
  pub count : length made.rows + length (common left.rows right.rows) ≡ length left.rows + length right.rows

-- those of `minus`
pub record IsMinus (left right made : RowSet) : Type 0 where
  pub rows : made ≡ record left { rows = minus left.rows right.rows }
  pub members : (row : ℕ) → is_in row made.rows ≡ (is_in row left.rows && not (is_in row right.rows))
  pub count : length made.rows + length (common left.rows right.rows) ≡ length left.rows

module _ (n : ℕ) (xs ys : List ℕ) (left right made : RowSet) (one : Opened n xs left) (two : Opened n ys right) where
  -- the value with the two lists as they are kept
  named : (combine : List ℕ → List ℕ → List ℕ) (kept : List ℕ) → made ≡ record { size = n; rows = kept } → kept ≡ combine xs ys
      → made ≡ record left { rows = combine left.rows right.rows }
  named combine kept is same =
      is ∙ ap (λ k. record { size = n; rows = k }) (same ∙ ap (λ t. combine t ys) one.rows_is ∙ ap (combine left.rows) two.rows_is)
      ∙ ap (λ k. record { size = k; rows = combine left.rows right.rows }) one.size_is

  pub is_and : (kept : List ℕ) → made ≡ record { size = n; rows = kept } → kept ≡ common xs ys → IsAnd left right made
  is_and kept is same =
      let rows = named common kept is same in
      record {
        rows = rows;
        members = λ row. ap (λ m. is_in row m.rows) rows ∙ is_in-common row left.rows right.rows ∙ and_swap (is_in row right.rows) (is_in row left.rows);
        count = ap (λ m. length m.rows + length (minus left.rows right.rows)) rows ∙ length-common_minus left.rows right.rows;
      }

  pub is_or : (kept : List ℕ) → made ≡ record { size = n; rows = kept } → kept ≡ joined xs ys → IsOr left right made
  is_or kept is same =
      let rows = named joined kept is same in
      record {
        rows = rows;
        members = λ row. ap (λ m. is_in row m.rows) rows ∙ is_in-joined row left.rows right.rows;
        count =
            ap (λ m. length m.rows + length (common left.rows right.rows)) rows
            ∙ length-joined_common left.rows right.rows (subst IsRising one.rows_is one.set.rising) (subst IsRising two.rows_is two.set.rising);
      }

  pub is_minus : (kept : List ℕ) → made ≡ record { size = n; rows = kept } → kept ≡ minus xs ys → IsMinus left right made
  is_minus kept is same =
      let rows = named minus kept is same in
      let parts : length (common left.rows right.rows) + length (minus left.rows right.rows) ≡ length left.rows =
      length-common_minus left.rows right.rows in
      record {
        rows = rows;
        members = λ row. ap (λ m. is_in row m.rows) rows ∙ is_in-minus row left.rows right.rows ∙ and_swap (not (is_in row right.rows)) (is_in row left.rows);
        count = ap (λ m. length m.rows + length (common left.rows right.rows)) rows ∙ omega arith;
      }
