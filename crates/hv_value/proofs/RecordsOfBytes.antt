-- From csv's relation between a text and its records to csv's function from one to the other.
use Rattle.std.proofs.Common.{◌≡◌, ◌≤◌, ◌<◌, ◌+◌, ◌==◌, ◌∷◌, ◌++◌, [], ℕ, zero, suc, List, Bool, Option, Some, None, true, false, refl, ap, subst, length, arith}
use Rattle.std.specs.Prelude.{◌&&◌, if◌then◌else◌}
use Rattle.csv.specs.Machine.{Read, after_end, ends_at_end, ends_with, field_after, fields_after, in_field, is_byte, is_end, next_record, start_field, start_record, step}
use Rattle.csv.specs.Reading.{AreRecords, Reached, records, records_from, records_next}
use Rattle.csv.specs.declared.parser.Config.{Config}
use Rattle.csv.specs.declared.parser.State.{State}
use Rattle.csv.specs.declared.parser.State.TheVariants as st
use Rattle.csv.specs.declared.parser.Action.{Action}
use Rattle.csv.specs.declared.parser.Terminator.{Terminator}
use Rattle.csv.specs.declared.parser.Terminator.TheVariants as term

-- where the action ends a record, the state is between records
abbrev EndsBetween : State × Action → Type 0
EndsBetween p = is_end p.1 ≡ true → ends_at_end p.0 ≡ false

-- a choice between two such pairs is one
choice : (b : Bool) (p q : State × Action) → EndsBetween p → EndsBetween q → EndsBetween (if b then p else q)
choice true p q first second = first
choice false p q first second = second

-- the state after a terminator is between records
after-end : (t : Terminator) (c : ℕ) → ends_at_end (after_end t c) ≡ false
after-end term.CRLF c = by (c == 13)
  where
    by : (b : Bool) → ends_at_end (if b then st.AfterCr else st.StartRecord) ≡ false
    by true = refl
    by false = refl
after-end (term.Any t) c = refl

-- a byte in a field, at the start of a field and at the start of a record
in-field : (cfg : Config) (c : ℕ) → EndsBetween (in_field cfg c)
in-field cfg c =
    choice (c == cfg.delimiter) _ _ (λ e. cc e)
    (choice (ends_with cfg.terminator c) _ _ (λ e. after-end cfg.terminator c) (λ e. cc e))

start-field : (cfg : Config) (c : ℕ) → EndsBetween (start_field cfg c)
start-field cfg c = choice (cfg.quoting && (c == cfg.quote)) _ _ (λ e. cc e) (in-field cfg c)

start-record : (cfg : Config) (c : ℕ) → EndsBetween (start_record cfg c)
start-record cfg c =
    choice (ends_with cfg.terminator c) _ _ (λ e. refl)
    (choice (is_byte cfg.comment c) _ _ (λ e. cc e) (start-field cfg c))

-- a byte that ends a record leaves a state between records
step-ends : (cfg : Config) (s : State) (c : ℕ) → EndsBetween (step cfg s c)
step-ends cfg st.StartRecord c = start-record cfg c
step-ends cfg st.StartField c = start-field cfg c
step-ends cfg st.InField c = in-field cfg c
step-ends cfg st.InQuoted c =
    choice (cfg.quoting && (c == cfg.quote)) _ _ (λ e. cc e)
    (choice (cfg.quoting && is_byte cfg.escape c) _ _ (λ e. cc e) (λ e. cc e))
step-ends cfg st.InEscape c = λ e. cc e
step-ends cfg st.AfterQuote c =
    choice (cfg.quoting && cfg.double_quote && (c == cfg.quote)) _ _ (λ e. cc e) (in-field cfg c)
step-ends cfg st.InComment c = choice (c == 10) _ _ (λ e. refl) (λ e. cc e)
step-ends cfg st.AfterCr c = choice (c == 10) _ _ (λ e. refl) (start-record cfg c)

-- the most records that are left in a text from a state: one for each byte, and one for a record at hand
abbrev pub weight : State → List ℕ → ℕ
weight s xs = if ends_at_end s then length xs + 1 else length xs

-- a weight is the length, or one more
weight-bounds : (s : State) (xs : List ℕ) → (length xs ≤ weight s xs) × (weight s xs ≤ length xs + 1)
weight-bounds s xs = by (ends_at_end s) (length xs)
  where
    by : (b : Bool) (n : ℕ) → (n ≤ (if b then n + 1 else n)) × ((if b then n + 1 else n) ≤ n + 1)
    by true n = (omega arith, omega arith)
    by false n = (omega arith, omega arith)

-- each record lowers the weight
next-lowers : (cfg : Config) (s : State) (fields : List (List ℕ)) (field xs : List ℕ) (p : Read)
    → next_record cfg s fields field xs ≡ Some p → weight p.1 p.2 < weight s xs
unfolding next_record
next-lowers cfg s fields field [] p e = by (ends_at_end s) e
  where
    by : (b : Bool) → (if b then Some (fields ++ (field ∷ []), st.StartRecord, []) else None) ≡ Some p
        → weight p.1 p.2 < (if b then 1 else 0)
    by true e =
        let same : (fields ++ (field ∷ []), st.StartRecord, []) ≡ p = cc in
        subst (λ (q : Read). weight q.1 q.2 < 1) same (omega arith)
    by false e = absurd (cc e)
next-lowers cfg s fields field (c ∷ rest) p e = by (is_end (step cfg s c).1) refl e (next-lowers cfg (step cfg s c).0 _ _ rest p)
  where
    by : (b : Bool) → is_end (step cfg s c).1 ≡ b
        → (if b then Some (fields_after (step cfg s c).1 fields field, (step cfg s c).0, rest)
        else next_record cfg (step cfg s c).0 (fields_after (step cfg s c).1 fields field) (field_after (step cfg s c).1 c field) rest) ≡ Some p
        → (next_record cfg (step cfg s c).0 (fields_after (step cfg s c).1 fields field) (field_after (step cfg s c).1 c field) rest ≡ Some p
        → weight p.1 p.2 < weight (step cfg s c).0 rest)
        → weight p.1 p.2 < weight s (c ∷ rest)
    by true ends e more =
        let same : (fields_after (step cfg s c).1 fields field, (step cfg s c).0, rest) ≡ p = cc in
        let here : weight (step cfg s c).0 rest ≡ length rest = rw (step-ends cfg s c ends) refl in
        subst (λ (q : Read). weight q.1 q.2 < weight s (c ∷ rest)) same (omega (arith, here, weight-bounds s (c ∷ rest)))
    by false ends e more = omega (arith, more e, weight-bounds (step cfg s c).0 rest, weight-bounds s (c ∷ rest))

-- records taken in turn to the end of a text are those that csv's function gives in turns enough
pub are_records_from : (cfg : Config) (n : ℕ) (s s2 : State) (xs ys : List ℕ) (rows : List (List (List ℕ)))
    → weight s xs ≤ n → Reached cfg s xs rows s2 ys → next_record cfg s2 [] [] ys ≡ None → records_from cfg n s xs ≡ rows
unfolding records_from Reached
are_records_from cfg zero s s2 xs ys [] most h none = refl
are_records_from cfg (suc n) s s2 xs ys [] most h none = rw (h.0, h.1, none) refl
are_records_from cfg zero s s2 xs ys (r ∷ rs) most h none = absurd (omega (arith, next-lowers cfg s [] [] xs h.0 h.1))
are_records_from cfg (suc n) s s2 xs ys (r ∷ rs) most h none =
    let lower = next-lowers cfg s [] [] xs h.0 h.1 in
    let more = are_records_from cfg n h.0.1 s2 h.0.2 ys rs (omega (arith, lower)) h.3 none in
    rw (h.1, h.2) (ap (λ (t : List (List (List ℕ))). h.0.0 ∷ t) more)

-- a text has at most as many records from a state as its weight
pub few_records_from : (cfg : Config) (n : ℕ) (s : State) (xs : List ℕ) → length (records_from cfg n s xs) ≤ weight s xs
unfolding records_from
few_records_from cfg zero s xs = omega arith
few_records_from cfg (suc n) s xs = by (next_record cfg s [] [] xs) refl (few_records_from cfg n)
  where
    by : (o : Option Read) → next_record cfg s [] [] xs ≡ o → ((s2 : State) (ys : List ℕ) → length (records_from cfg n s2 ys) ≤ weight s2 ys)
        → length (records_next (records_from cfg n) o) ≤ weight s xs
    by None e more = omega arith
    by (Some p) e more = omega (arith, next-lowers cfg s [] [] xs p e, more p.1 p.2)

-- all the records of a text are what csv's function gives
pub are_records : (cfg : Config) (bytes : List ℕ) (rows : List (List (List ℕ)))
    → AreRecords cfg st.StartRecord bytes rows → records cfg bytes ≡ rows
are_records cfg bytes rows h = are_records_from cfg (length bytes + 1) st.StartRecord h.0 bytes h.1 rows (omega arith) h.2 h.3

-- a text has no more records than bytes
pub few_records : (cfg : Config) (bytes : List ℕ) → length (records cfg bytes) ≤ length bytes
few_records cfg bytes = few_records_from cfg (length bytes + 1) st.StartRecord bytes
