-- The rows of a lineage over sets of partitions, one partition more and joined.
use Rattle.std.proofs.Common.{◌≡◌, ◌∙◌, ◌++◌, ◌∷◌, [], ℕ, List, Bool, true, false, Option, Some, None, refl, sym, ap, subst, append_assoc}
use Rattle.std.specs.Prelude.{◌||◌, ◌==◌, nat_lt, IsPermutation, if◌then◌else◌}
use mathlib.Core.Bool.{true≢false}
use Rattle.std.proofs.lemmas.Bool.{eqb-true}
use Rattle.std.proofs.lemmas.List.{append-nil}
use Rattle.std.proofs.lemmas.List.Sorted.{IsPermutation-append_comm, IsPermutation-append_left, IsPermutation-append_right, IsPermutation-refl, IsPermutation-trans}
use Rattle.hv_value.specs.Rows.{Row}
use Rattle.hv_member.specs.Sets.{IsRising, IsSetBelow, common, inserted, is_in, joined}
use Rattle.hv_member.proofs.MembershipLemmas.{is_in-common, is_in-first, is_in-inserted, is_in-rest}
use Rattle.hv_member.proofs.RisingLemmas.{first_once}
use Rattle.hv_lineage.specs.Bases.{inline_text}
use Rattle.hv_lineage.specs.Flat.{Told, append_told, flat_rows, part_bytes, part_rows}
use Rattle.hv_lineage.specs.declared.base.Base.{Base}
use Rattle.hv_lineage.specs.declared.base.Base.TheVariants as base
use Rattle.hv_lineage.specs.Lineages.{TermOver}

-- two lists one after the other, taken apart
pub record Both (first rest : Option (List Row)) (all : List Row) : Type 0 where
  pub xs : List Row
  pub ys : List Row
  pub first_is : first ≡ Some xs
  pub rest_is : rest ≡ Some ys
  pub all_is : all ≡ xs ++ ys

pub both : (first rest : Option (List Row)) (all : List Row) → append_told first rest ≡ Some all → Both first rest all
both None rest all e = absurd (cc e)
both (Some xs) None all e = absurd (cc e)
both (Some xs) (Some ys) all e = record { xs = xs; ys = ys; first_is = refl; rest_is = refl; all_is = let same : xs ++ ys ≡ all = cc e in sym same }

-- the rows over a set are told, and are some rows in another order
pub record Has (told : Told) (lineage : TermOver) (parts : List ℕ) (rows : List Row) : Type 0 where
  pub flat : List Row
  pub is : flat_rows told lineage parts ≡ Some flat
  pub same : IsPermutation rows flat

module _ (told : Told) (lineage : TermOver) where
  -- one more partition brings its rows
  pub inserted-rows : (part : ℕ) (parts : List ℕ) (rows more : List Row) → is_in part parts ≡ false → flat_rows told lineage parts ≡ Some rows
      → part_rows told lineage part ≡ Some more → Has told lineage (inserted part parts) (rows ++ more)
  inserted-rows part [] rows more out are is =
      let none : [] ≡ rows = cc are in
      record { flat = more ++ []; is = rw is refl; same = rw (← none) (subst (λ zs. IsPermutation more zs) (sym (append-nil more)) (IsPermutation-refl more)) }
  inserted-rows part (p ∷ parts) rows more out are is =
      let parts_of = both (part_rows told lineage p) (flat_rows told lineage parts) rows are in
      by (nat_lt p part) (part == p) out parts_of (λ o. inserted-rows part parts parts_of.ys more o parts_of.rest_is is)
    where
      by : (lower here : Bool) → (here || is_in part parts) ≡ false → (h : Both (part_rows told lineage p) (flat_rows told lineage parts) rows)
          → (is_in part parts ≡ false → Has told lineage (inserted part parts) (h.ys ++ more))
          → Has told lineage (if lower then p ∷ inserted part parts else if here then p ∷ parts else part ∷ p ∷ parts) (rows ++ more)
      by true true o h inner = absurd (cc o)
      by true false o h inner =
          let deeper = inner o in
          record {
            flat = h.xs ++ deeper.flat;
            is = rw (h.first_is, deeper.is) refl;
            same = rw (h.all_is, append_assoc) (IsPermutation-append_right h.xs (h.ys ++ more) deeper.flat deeper.same);
          }
      by false true o h inner = absurd (cc o)
      by false false o h inner = record {
        flat = more ++ (h.xs ++ h.ys);
        is = rw (is, h.first_is, h.rest_is) refl;
        same = rw h.all_is (IsPermutation-append_comm (h.xs ++ h.ys) more);
      }

  -- joined sets without a common partition have the rows of both
  joined-rows : (a b : List ℕ) (xs ys : List Row) → IsRising b → ((part : ℕ) → is_in part b ≡ true → is_in part a ≡ false)
      → flat_rows told lineage a ≡ Some xs → flat_rows told lineage b ≡ Some ys → Has told lineage (joined a b) (xs ++ ys)
  joined-rows a [] xs ys rising apart are these =
      let none : [] ≡ ys = cc these in
      record { flat = xs; is = are; same = rw (← none, append-nil) (IsPermutation-refl xs) }
  joined-rows a (part ∷ b) xs ys rising apart are these =
      let h = both (part_rows told lineage part) (flat_rows told lineage b) ys these in
      let one = inserted-rows part a xs h.xs (apart part (is_in-first part b)) are h.first_is in
      let rest = joined-rows (inserted part a) b one.flat h.ys rising.1 others one.is h.rest_is in
      let split : xs ++ ys ≡ (xs ++ h.xs) ++ h.ys = ap (λ (zs : List Row). xs ++ zs) h.all_is ∙ sym (append_assoc xs h.xs h.ys) in
      record {
        flat = rest.flat;
        is = rest.is;
        same = subst (λ (zs : List Row). IsPermutation zs rest.flat) (sym split)
            (IsPermutation-trans ((xs ++ h.xs) ++ h.ys) (one.flat ++ h.ys) rest.flat (IsPermutation-append_left h.ys (xs ++ h.xs) one.flat one.same) rest.same);
      }
    where
      others : (q : ℕ) → is_in q b ≡ true → is_in q (inserted part a) ≡ false
      others q there = rw is_in-inserted (by (q == part) refl)
        where
          by : (same : Bool) → (q == part) ≡ same → (same || is_in q a) ≡ false
          by true e =
              let same : q ≡ part = eqb-true q part e in
              absurd (true≢false (sym there ∙ (rw same (first_once part b rising))))
          by false e = apart q (is_in-rest q part b there)

  -- so have sets without a common one
  pub joined-sets : (size : ℕ) (a b : List ℕ) (xs ys : List Row) → IsSetBelow size a → IsSetBelow size b → common a b ≡ []
      → flat_rows told lineage a ≡ Some xs → flat_rows told lineage b ≡ Some ys
      → (zs : List Row) × (flat_rows told lineage (joined a b) ≡ Some zs) × IsPermutation (xs ++ ys) zs
  joined-sets size a b xs ys set_a set_b apart are these =
      let has = joined-rows a b xs ys set_b.rising (λ q there. by q there (is_in q a) refl) are these in
      (has.flat, has.is, has.same)
    where
      by : (q : ℕ) → is_in q b ≡ true → (here : Bool) → is_in q a ≡ here → here ≡ false
      by q there false here = refl
      by q there true here =
          let both_in : is_in q (common a b) ≡ true = rw (is_in-common q a b, there, here) refl in
          absurd (true≢false (sym both_in ∙ ap (is_in q) apart))

-- the bytes of an inline base's partition are its text, whatever is told of named tables
pub inline-told : (told : Told) (b : Base) (part : ℕ) (text : List ℕ) → inline_text b part ≡ Some text → part_bytes told b part ≡ Some text
inline-told told (base.Inline schema parts) part text is = is
inline-told told (base.Named schema table parts) part text is = absurd (cc is)
