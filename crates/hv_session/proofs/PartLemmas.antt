-- The partitions of a lineage, one after another.
use Rattle.std.proofs.Common.{◌≡◌, ◌∙◌, sym, ap, subst, ℕ, zero, suc, ◌+◌, ◌<◌, List, [], ◌∷◌, ◌++◌, ◌||◌, Some, inl, inr, eqb, ltb, arith, add-one, append_assoc}
use Rattle.std.proofs.lemmas.Bool.{cases_Bool, ltb-true, lt-ltb, eqb-true, eqb-false, or_cases, or_left, or_right}
use Rattle.std.specs.List.{range_with_len}
use Rattle.hv_value.specs.Rows.{Row}
use Rattle.hv_value.specs.Schema.{Columns}
use Rattle.hv_value.specs.Table.{AreRowsFrom}
use Rattle.hv_member.specs.Sets.{inserted, numbers}
use Rattle.hv_member.proofs.MembershipLemmas.{is_in-inserted, is_in-numbers, same_tests}
use Rattle.hv_member.proofs.RisingLemmas.{IsRising-inserted, IsRising-numbers, same_rising}
use Rattle.hv_sketch.specs.Parts.{AreBefore}
use Rattle.hv_lineage.proofs.FlatLemmas.{both}
use Rattle.hv_lineage.specs.Flat.{Told, append_told, flat_rows, part_rows}
use Rattle.hv_lineage.specs.Lineages.{TermOver, lineage_columns}
use Rattle.hv_view.specs.Plans.{AreRowsUnder}

-- a number is below one more where it is that number or below it
below_more : (z n : ℕ) → (eqb z n || ltb z n) ≡ ltb z (n + 1)
below_more z n =
    same_tests (eqb z n || ltb z n) (ltb z (n + 1))
    (λ either. elim (or_cases (eqb z n) (ltb z n) either) [
      | inl same ↦ let is : z ≡ n = eqb-true z n same in lt-ltb z (n + 1) (omega (arith, is))
      | inr less ↦ let is : z < n = ltb-true z n less in lt-ltb z (n + 1) (omega (arith, is))
    ])
    (λ less. let is : z < n + 1 = ltb-true z (n + 1) less in elim (cases_Bool (eqb z n)) [
      | inl same ↦ or_left (eqb z n) (ltb z n) same
      | inr other ↦ let differ : z ≡ n → ⊥ = eqb-false z n other in or_right (eqb z n) (ltb z n) (lt-ltb z n (omega (arith, is, differ)))
    ])

-- all numbers below one more: the number put to those below it
pub inserted-numbers : (n : ℕ) → inserted n (numbers n) ≡ numbers (n + 1)
inserted-numbers n =
    same_rising (inserted n (numbers n)) (numbers (n + 1)) (IsRising-inserted n (numbers n) (IsRising-numbers n)) (IsRising-numbers (n + 1))
    (λ z. is_in-inserted z n (numbers n) ∙ ap (λ t. eqb z n || t) (is_in-numbers z n) ∙ below_more z n ∙ sym (is_in-numbers z (n + 1)))

run_more : (a n last : ℕ) → a + n ≡ last → range_with_len a (suc n) ≡ range_with_len a n ++ last ∷ []
run_more a zero last e = ap (λ (x : ℕ). x ∷ []) (omega (arith, e))
run_more a (suc n) last e = ap (λ xs. a ∷ xs) (run_more (a + 1) n last (omega (arith, e)))

-- or after them
pub numbers-more : (n : ℕ) → numbers (n + 1) ≡ numbers n ++ n ∷ []
numbers-more n = ap numbers (add-one n) ∙ run_more 0 n n (omega arith)

-- the rows of a lineage in its partitions below a number, of which something holds
pub record RowsBelow (told : Told) (lineage : TermOver) (part : ℕ) (Holds : List Row → Type 0) : Type 0 where
  pub rows : List Row
  pub is : flat_rows told lineage (numbers part) ≡ Some rows
  pub under : AreRowsUnder (lineage_columns lineage) rows
  pub holds : Holds rows
  pub before : AreBefore part rows

-- rows under columns, and then more of them
pub under-append : (columns : Columns) (a b : List Row) → AreRowsUnder columns a → AreRowsUnder columns b → AreRowsUnder columns (a ++ b)
under-append columns [] b h k = k
under-append columns (row ∷ a) b h k = (h.0, under-append columns a b h.1 k)

-- the rows of a table are under its columns
pub under-table : (columns : Columns) (part from : ℕ) (rows : List Row) → AreRowsFrom columns part from rows → AreRowsUnder columns rows
under-table columns part from [] h = tt
under-table columns part from (row ∷ rows) h = (h.0.kinds, under-table columns part (row.number + 1) rows h.1)

module _ (told : Told) (lineage : TermOver) where
  -- the rows of some partitions and then those of one more
  pub flat-more : (parts : List ℕ) (part : ℕ) (rows more : List Row) → flat_rows told lineage parts ≡ Some rows → flat_rows told lineage (part ∷ []) ≡ Some more
      → flat_rows told lineage (parts ++ part ∷ []) ≡ Some (rows ++ more)
  flat-more [] part rows more are one =
      let none : [] ≡ rows = cc are in
      subst (λ (first : List Row). flat_rows told lineage (part ∷ []) ≡ Some (first ++ more)) none one
  flat-more (p ∷ parts) part rows more are one =
      let h = both (part_rows told lineage p) (flat_rows told lineage parts) rows are in
      let joined = flat-more parts part h.ys more h.rest_is one in
      ap (λ rest. append_told (part_rows told lineage p) rest) joined
      ∙ ap (λ first. append_told first (Some (h.ys ++ more))) h.first_is
      ∙ ap (λ all. Some all) (sym (append_assoc h.xs h.ys more) ∙ ap (λ first. first ++ more) (sym h.all_is))
