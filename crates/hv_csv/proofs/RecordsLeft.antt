-- The records that a text has left from a state, and those of a reader as it reads one.
use Rattle.std.proofs.Common.{Bor, ◌≡◌, ◌≤◌, ◌<◌, ◌+◌, ◌∷◌, ◌⊎◌, [], ◌∙◌, ℕ, zero, suc, List, Bool, Option, Some, None, true, false, refl, sym, ap, inl, inr, length, arith}
use Rattle.std.specs.Prelude.{if◌then◌else◌}
use Rattle.csv.specs.Machine.{Read, ends_at_end, next_record}
use Rattle.csv.specs.Reading.{ReadRecord, Reached, default_config, records, records_from, records_next}
use Rattle.csv.specs.declared.parser.State.{State}
use Rattle.csv.specs.declared.parser.State.TheVariants as st
use Rattle.csv.specs.declared.reader.Reader.{Reader}
use Rattle.csv.proofs.ReadFacts.{rows-end, rows-more}
use Rattle.hv_value.proofs.RecordsOfBytes.{few_records, few_records_from}
use Rattle.hv_csv.specs.Left.{IsSetUp, bytes_left, records_in, records_left}

-- a text has at most one record more than bytes from a state
few_from : (n : ℕ) (s : State) (xs : List ℕ) → length (records_from default_config n s xs) ≤ length xs + 1
few_from n s xs = by (ends_at_end s) (few_records_from default_config n s xs)
  where
    by : (b : Bool) → length (records_from default_config n s xs) ≤ (if b then length xs + 1 else length xs)
        → length (records_from default_config n s xs) ≤ length xs + 1
    by true most = most
    by false most = omega (arith, most)

-- one more turn gives no more records, unless each turn gave one
one_more : (n : ℕ) (s : State) (xs : List ℕ)
    → (length (records_from default_config n s xs) ≡ n) ⊎ (records_from default_config (suc n) s xs ≡ records_from default_config n s xs)
unfolding records_from
one_more zero s xs = inl refl
one_more (suc n) s xs = by (next_record default_config s [] [] xs) (one_more n)
  where
    by : (o : Option Read)
        → ((s2 : State) (ys : List ℕ) → (length (records_from default_config n s2 ys) ≡ n)
        ⊎ (records_from default_config (suc n) s2 ys ≡ records_from default_config n s2 ys))
        → (length (records_next (records_from default_config n) o) ≡ suc n)
        ⊎ (records_next (records_from default_config (suc n)) o ≡ records_next (records_from default_config n) o)
    by None more = inr refl
    by (Some p) more = elim (more p.1 p.2) [
      | inl full ↦ inl (ap suc full)
      | inr same ↦ inr (ap (λ (rest : List (List (List ℕ))). p.0 ∷ rest) same)
    ]

-- nor do further turns, where one was left over
stable : (k n : ℕ) (s : State) (xs : List ℕ) → length (records_from default_config n s xs) < n
    → records_from default_config (n + k) s xs ≡ records_from default_config n s xs
stable zero n s xs left = let e : n + 0 ≡ n = omega arith in rw e refl
stable (suc k) n s xs left =
    let so_far = stable k n s xs left in
    let e : n + suc k ≡ suc (n + k) = omega arith in
    rw e (elim (one_more (n + k) s xs) [
      | inl full ↦ absurd (omega (arith, ap length so_far, full, left))
      | inr same ↦ same ∙ so_far
    ])

-- all records of a text from a state, by any turns that leave one over
enough : (n : ℕ) (s : State) (xs : List ℕ) → length (records_from default_config n s xs) < n
    → records_in s xs ≡ records_from default_config n s xs
enough n s xs left =
    let few = few_from (length xs + 2) s xs in
    let m = length xs + 2 in
    let e : m + n ≡ n + m = omega arith in
    sym (stable n m s xs (omega (arith, few))) ∙ (rw e (stable m n s xs left))

-- all records of a text from its start
pub left-start : (xs : List ℕ) → records_in st.StartRecord xs ≡ records default_config xs
left-start xs = enough (length xs + 1) st.StartRecord xs (omega (arith, few_records default_config xs))

-- where there is no next record, none is left
pub left-none : (s : State) (xs : List ℕ) → next_record default_config s [] [] xs ≡ None → records_in s xs ≡ []
unfolding records_from
left-none s xs none = let e : length xs + 2 ≡ suc (length xs + 1) = omega arith in rw (e, none) refl

-- after the next record those of the rest are left
pub left-more : (s : State) (xs : List ℕ) (p : Read) → next_record default_config s [] [] xs ≡ Some p
    → records_in s xs ≡ p.0 ∷ records_in p.1 p.2
unfolding records_from
left-more s xs p some =
    let turns = length xs + 1 in
    let e : length xs + 2 ≡ suc turns = omega arith in
    let first : records_in s xs ≡ p.0 ∷ records_from default_config turns p.1 p.2 = rw (e, some) refl in
    let few = few_from (length xs + 2) s xs in
    let left : length (records_from default_config turns p.1 p.2) < turns = omega (arith, few, ap length first) in
    first ∙ ap (λ (rest : List (List (List ℕ))). p.0 ∷ rest) (sym (enough turns p.1 p.2 left))

-- a reader that went from the bytes before a record to those after it
left-after : (old new : Reader (Bor (List ℕ))) (fields : List (List ℕ)) (bytes rest : List ℕ) (p : Read)
    → bytes_left old ≡ Some bytes → bytes_left new ≡ Some rest → next_record default_config old.state [] [] bytes ≡ Some p
    → fields ≡ p.0 → p.1 ≡ new.state → p.2 ≡ rest → records_left old ≡ fields ∷ records_left new
unfolding records_left
left-after old new fields bytes rest p before after some same state rest_is =
    rw (before, after, same, ← state, ← rest_is) (left-more old.state bytes p some)

-- a read that found a record, of a reader that is set up
pub next-found : (old new : Reader (Bor (List ℕ))) (fields : List (List ℕ)) → IsSetUp old
    → ReadRecord (λ (s : Bor (List ℕ)). Some s.now) old new true fields
    → (records_left old ≡ fields ∷ records_left new) × ((bytes : List ℕ) × (bytes_left new ≡ Some bytes))
unfolding Reached
next-found old new fields set_up reads =
    let more = rows-more (λ (s : Bor (List ℕ)). Some s.now) old new fields default_config old.state set_up.bytes set_up.bytes [] set_up.dialect set_up.known (refl, refl) reads in
    let (rest, known, found) = more in
    let (p, some, same, ends) = found in
    (left-after old new fields set_up.bytes rest p set_up.known known some same ends.0 ends.1, (rest, known))

-- a read that found none
pub next-none : (old new : Reader (Bor (List ℕ))) (fields : List (List ℕ)) → IsSetUp old
    → ReadRecord (λ (s : Bor (List ℕ)). Some s.now) old new false fields → records_left old ≡ []
unfolding records_left
next-none old new fields set_up reads =
    let none = rows-end (λ (s : Bor (List ℕ)). Some s.now) old new fields default_config set_up.bytes set_up.dialect set_up.known reads in
    rw set_up.known (left-none old.state set_up.bytes none)
