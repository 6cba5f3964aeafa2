-- A set of partitions as words of bits and a count.
use Rattle.std.proofs.Common.{◌≡◌, ℕ, ◌+◌, ◌^◌, ◌<◌, ◌≤◌, Bool, true, false, ◌||◌, ◌&&◌, eqb, ltb, List, [], ◌∷◌, ◌++◌, length, take, drop, replicate, Some, None, refl, sym, ap, ◌∙◌, subst, inl, inr, arith}
use Rattle.std.specs.Prelude.{◌↔◌, IsTrue}
use Rattle.std.proofs.lemmas.Bool.{cases_lt, cases_eq, cases_Bool, eqb-true, lt-ltb, le-ltb, ltb-true, ltb-false, both_ways, and_parts, and_from}
use Rattle.std.proofs.lemmas.List.{take_all, append-nil, length-replicate}
use Rattle.std.proofs.Math.Seq.{drop-length}
use Rattle.hv_member.specs.Sets.{is_in, IsSetBelow, numbers, inserted, is_within, has_all, exceeds, next_from}
use Rattle.std.specs.Int.{div_ceil}
use Rattle.hv_member.specs.PartSet.{Parts}
use Rattle.hv_member.specs.Bits.{bit_of, members_of, IsKept, IsFirstBit}
use Rattle.hv_member.proofs.MembershipLemmas.{same_tests, is_in-filter, is_in-numbers, is_in-inserted, is_within-in, is_within-from}
use Rattle.hv_member.proofs.RisingLemmas.{same_rising, IsSetBelow-filter, IsSetBelow-numbers, IsSetBelow-inserted, length-set_below, has_all-length}
use Rattle.hv_member.proofs.CountLemmas.{inserted-there, length-inserted, exceeds-length}
use Rattle.hv_member.proofs.SearchLemmas.{next_from-none, next_from-some}
use Rattle.hv_member.proofs.BitLemmas.{bit_of-zeros}

-- the members are a set of numbers below the size
pub IsSetBelow-members : (size : ℕ) (words : List ℕ) → IsSetBelow size (members_of size words)
IsSetBelow-members size words = IsSetBelow-filter size (bit_of words) (numbers size) (IsSetBelow-numbers size)

-- a number below the size is a member where its bit is set
pub is_in-members : (size p : ℕ) (words : List ℕ) → p < size → is_in p (members_of size words) ≡ bit_of words p
is_in-members size p words below =
    is_in-filter (bit_of words) p (numbers size) ∙ ap (λ t. bit_of words p && t) (is_in-numbers p size ∙ lt-ltb p size below) ∙ and_true (bit_of words p)
  where
    and_true : (b : Bool) → (b && true) ≡ b
    and_true true = refl
    and_true false = refl

-- no other number is
pub is_in-past : (size p : ℕ) (words : List ℕ) → size ≤ p → is_in p (members_of size words) ≡ false
is_in-past size p words past =
    is_in-filter (bit_of words) p (numbers size) ∙ ap (λ t. bit_of words p && t) (is_in-numbers p size ∙ le-ltb p size past) ∙ and_false (bit_of words p)
  where
    and_false : (b : Bool) → (b && false) ≡ false
    and_false true = refl
    and_false false = refl

module _ (size count : ℕ) (words : List ℕ) (kept : IsKept size count words) where
  -- so a number is a member where its bit is set
  pub is_in-kept : (p : ℕ) → is_in p (members_of size words) ≡ bit_of words p
  is_in-kept p =
      elim (cases_lt p size) [
        | inl below ↦ is_in-members size p words below
        | inr past ↦ is_in-past size p words past ∙ sym (kept.clear p past)
      ]

  pub count-small : count ≤ size
  count-small = let many = length-set_below size (members_of size words) (IsSetBelow-members size words) in omega arith

  -- all are there where the count is the size
  pub is_full-kept : eqb count size ≡ has_all size (members_of size words)
  is_full-kept = ap (λ t. eqb t size) kept.counted ∙ has_all-length size (members_of size words) (IsSetBelow-members size words)

  -- the first bit is the next member
  pub next-some : (from q : ℕ) → IsFirstBit words from (Some q) → next_from from (members_of size words) ≡ Some q
  next-some from q first =
      next_from-some from q (members_of size words) (IsSetBelow-members size words).rising (is_in-kept q ∙ first.1) first.0
      (λ x there high. elim (cases_lt x q) [
        | inl less ↦ absurd (both_ways (bit_of words x) (first.2 x high less) (sym (is_in-kept x) ∙ there))
        | inr more ↦ more
      ])

  pub next-none : (from : ℕ) → IsFirstBit words from None → next_from from (members_of size words) ≡ None
  next-none from first =
      next_from-none from (members_of size words) (λ x there. elim (cases_lt x from) [
        | inl less ↦ less
        | inr more ↦ absurd (both_ways (bit_of words x) (first x more) (sym (is_in-kept x) ∙ there))
      ])

  pub first-small : (from q : ℕ) → IsFirstBit words from (Some q) → q < size
  first-small from q first =
      elim (cases_lt q size) [
        | inl below ↦ below
        | inr past ↦ absurd (both_ways (bit_of words q) (kept.clear q past) first.1)
      ]

-- ---- an insert

module _ (size p : ℕ) (words new : List ℕ) (below : p < size) (each : (n : ℕ) → bit_of new n ≡ (eqb n p || bit_of words n)) where
  -- the members are the old ones with the new one
  pub members-inserted : members_of size new ≡ inserted p (members_of size words)
  members-inserted =
      same_rising (members_of size new) (inserted p (members_of size words)) (IsSetBelow-members size new).rising
      (IsSetBelow-inserted size p (members_of size words) below (IsSetBelow-members size words)).rising
      (λ z. elim (cases_lt z size) [
        | inl low ↦
            is_in-members size z new low ∙ each z ∙ ap (λ t. eqb z p || t) (sym (is_in-members size z words low))
            ∙ sym (is_in-inserted z p (members_of size words))
        | inr high ↦
            is_in-past size z new high
            ∙ sym (is_in-inserted z p (members_of size words) ∙ ap (λ t. eqb z p || t) (is_in-past size z words high) ∙ other z high)
      ])
    where
      other : (z : ℕ) → size ≤ z → (eqb z p || false) ≡ false
      other z high = rw (Rattle.std.proofs.lemmas.Bool.ne_eqb z p (λ same. omega arith)) refl

  -- and the words are kept with one more
  pub kept-inserted : (count : ℕ) → IsKept size count words → bit_of words p ≡ false → length new ≡ length words
      → IsKept size (count + 1) new
  kept-inserted count kept none long = record {
    small = kept.small;
    room = long ∙ kept.room;
    clear = λ q past. each q ∙ rw (Rattle.std.proofs.lemmas.Bool.ne_eqb q p (λ same. omega arith)) (kept.clear q past);
    counted =
        let more : length (inserted p (members_of size words)) ≡ length (members_of size words) + 1 =
        length-inserted p (members_of size words) (is_in-kept size count words kept p ∙ none) in
        let same : length (members_of size new) ≡ length (inserted p (members_of size words)) = ap length members-inserted in
        let before : count ≡ length (members_of size words) = kept.counted in
        omega arith;
  }

  -- there is room for one more
  pub count-inserted : (count : ℕ) → IsKept size count words → bit_of words p ≡ false → length new ≡ length words → count + 1 ≤ size
  count-inserted count kept none long = count-small size (count + 1) new (kept-inserted count kept none long)

-- the words of a `Vec` after a call wrote them as a slice
pub written-whole : (len : ℕ) (old new : List ℕ) → len ≡ length old → length new ≡ length old → take len (new ++ drop (length new) old) ≡ new
written-whole len old new is long =
    ap (λ t. take len (new ++ t)) (ap (λ k. drop k old) long ∙ drop-length old) ∙ ap (take len) (append-nil new) ∙ take_all len new (omega arith)

-- ---- the empty set

-- words that are 0 have no member
pub members-zeros : (size n : ℕ) → members_of size (replicate n 0) ≡ []
members-zeros size n = none_pass (numbers size)
  where
    none_pass : (xs : List ℕ) → Rattle.std.specs.List.filter (bit_of (replicate n 0)) xs ≡ []
    none_pass [] = refl
    none_pass (x ∷ xs) = rw (bit_of-zeros n x) (none_pass xs)

pub kept-zeros : (size n : ℕ) → size < 2 ^ 32 → n ≡ div_ceil size 64 → IsKept size 0 (replicate n 0)
kept-zeros size n low room = record {
  small = low;
  room = length-replicate n 0 ∙ room;
  clear = λ p past. bit_of-zeros n p;
  counted = sym (ap length (members-zeros size n));
}

-- ---- two sets of one size

module _ (size count other_count : ℕ) (words others : List ℕ) (kept : IsKept size count words) (other : IsKept size other_count others) where
  within_words : ((n : ℕ) → bit_of others n ≡ true → bit_of words n ≡ true) → is_within (members_of size others) (members_of size words) ≡ true
  within_words each =
      is_within-from (members_of size others) (members_of size words) (λ x there.
      is_in-kept size count words kept x ∙ each x (sym (is_in-kept size other_count others other x) ∙ there))

  words_within : is_within (members_of size others) (members_of size words) ≡ true → (n : ℕ) → bit_of others n ≡ true → bit_of words n ≡ true
  words_within within n there =
      sym (is_in-kept size count words kept n)
      ∙ is_within-in (members_of size others) (members_of size words) within n (is_in-kept size other_count others other n ∙ there)

  by_counts : exceeds (members_of size words) (members_of size others) ≡ (ltb other_count count && is_within (members_of size others) (members_of size words))
  by_counts =
      exceeds-length (members_of size words) (members_of size others) (IsSetBelow-members size words).rising (IsSetBelow-members size others).rising
      ∙ ap (λ t. ltb t (length (members_of size words)) && is_within (members_of size others) (members_of size words)) (sym other.counted)
      ∙ ap (λ t. ltb other_count t && is_within (members_of size others) (members_of size words)) (sym kept.counted)

  -- one with more members exceeds the other where all the other's bits are set
  pub exceeds-words : other_count < count → (r : Bool) → IsTrue r ↔ ((n : ℕ) → bit_of others n ≡ true → bit_of words n ≡ true)
      → r ≡ exceeds (members_of size words) (members_of size others)
  exceeds-words fewer r tells =
      same_tests r (is_within (members_of size others) (members_of size words)) (λ yes. within_words (tells.0 yes)) (λ within. tells.1 (words_within within))
      ∙ sym (by_counts ∙ ap (λ t. t && is_within (members_of size others) (members_of size words)) (lt-ltb other_count count fewer))

  -- one without doesn't
  pub exceeds-no_more : count ≤ other_count → ltb other_count count ≡ exceeds (members_of size words) (members_of size others)
  exceeds-no_more many = rw (le-ltb other_count count many) (sym (by_counts ∙ ap (λ t. t && is_within (members_of size others) (members_of size words)) (le-ltb other_count count many)))

-- ---- what contracts see

module _ (size : ℕ) (words : List ℕ) (now : Parts) (view_is : record { size = size; parts = members_of size words } ≡ now) where
  -- the partitions that are seen are a set of those below the size
  pub set-seen : IsSetBelow now.size now.parts
  set-seen = subst (λ s. IsSetBelow s.size s.parts) view_is (IsSetBelow-members size words)

  pub size-seen : size ≡ now.size
  size-seen = ap (λ s. s.size) view_is

  pub parts-seen : members_of size words ≡ now.parts
  parts-seen = ap (λ s. s.parts) view_is

module _ (n m count other_count : ℕ) (words others : List ℕ) (left right : Parts) (view_left : record { size = n; parts = members_of n words } ≡ left) (view_right : record { size = m; parts = members_of m others } ≡ right) (kept : IsKept n count words) (other : IsKept m other_count others) (same : left.size ≡ right.size) where
  sizes : m ≡ n
  sizes = size-seen m others right view_right ∙ sym same ∙ sym (size-seen n words left view_left)

  other_kept : IsKept n other_count others
  other_kept = subst (λ k. IsKept k other_count others) sizes other

  both_seen : exceeds (members_of n words) (members_of n others) ≡ exceeds left.parts right.parts
  both_seen =
      ap (λ k. exceeds (members_of n words) (members_of k others)) (sym sizes)
      ∙ ap (exceeds (members_of n words)) (parts-seen m others right view_right)
      ∙ ap (λ t. exceeds t right.parts) (parts-seen n words left view_left)

  -- the answer by the words, of two sets of one size
  pub exceeds-more_members : other_count < count → (r : Bool) → IsTrue r ↔ ((k : ℕ) → bit_of others k ≡ true → bit_of words k ≡ true)
      → r ≡ exceeds left.parts right.parts
  exceeds-more_members fewer r tells = exceeds-words n count other_count words others kept other_kept fewer r tells ∙ both_seen

  pub exceeds-fewer_members : count ≤ other_count → ltb other_count count ≡ exceeds left.parts right.parts
  exceeds-fewer_members many = exceeds-no_more n count other_count words others kept other_kept many ∙ both_seen

-- ---- an insert as contracts see it

module _ (size p : ℕ) (words : List ℕ) (now : Parts) (view_is : record { size = size; parts = members_of size words } ≡ now) (below : p < now.size) where
  below_size : p < size
  below_size = let same = size-seen size words now view_is in omega arith

  -- a new one
  pub insert-new : (new : List ℕ) → ((n : ℕ) → bit_of new n ≡ (eqb n p || bit_of words n))
      → record { size = size; parts = members_of size new } ≡ record now { parts = inserted p now.parts }
  insert-new new each =
      ap (λ t. record { size = size; parts = t })
      (members-inserted size p words new below_size each ∙ ap (inserted p) (parts-seen size words now view_is))
      ∙ ap (λ k. record { size = k; parts = inserted p now.parts }) (size-seen size words now view_is)

  -- one that is there
  pub insert-there : bit_of words p ≡ true → now ≡ record now { parts = inserted p now.parts }
  insert-there there =
      ap (λ t. record { size = now.size; parts = t })
      (sym (inserted-there p now.parts (set-seen size words now view_is).rising
      (sym (ap (is_in p) (parts-seen size words now view_is)) ∙ is_in-members size p words below_size ∙ there)))
