-- Days and their texts: the texts of numbers and of dates read back, and which day numbers the years 0001 to 9999 have.
use Rattle.std.proofs.Common.{◌≡◌, ℕ, ◌+◌, ◌*◌, ◌/◌, ◌%◌, ◌^◌, ◌<◌, ◌≤◌, ◌&&◌, Bool, true, false, List, [], ◌∷◌, ◌++◌, Option, Some, None, ℤ, pos, negsuc, ◌≤ℤ◌, T, int_le, refl, sym, ap, subst, ◌∙◌, inl, inr, arith, rules, if◌then◌else◌, slice_range, of_z, to_z, to_z-of_z, w16, FitsSigned, Fits, nat_abs}
use Rattle.std.specs.Int.{is_in_range}
use Rattle.std.specs.Int.Signed.{non_neg}
use Rattle.std.specs.Char.{digit_value, is_ascii_digit}
use Rattle.std.specs.Prelude.{nat_le}
use Rattle.std.proofs.lemmas.Bool.{and_parts, le-leb, leb-true, lt-ltb}
use Rattle.std.proofs.lemmas.Str.{digit_value_digit}
use Rattle.std.proofs.lemmas.Int.{by_lt_z}
use Rattle.jiff_core.specs.declared.civil.date.Date.{Date}
use Rattle.jiff_core.specs.Calendar.{day_count, days_from_civil, days_in_month, days_of_months, days_of_years}
use Rattle.jiff_core.specs.Date.{epoch_day}
use Rattle.jiff_core.proofs.CalendarLemmas.{days_in_month_bounds}
use Rattle.jiff_core.proofs.DateLemmas.{IsEarlier, cases_date, epoch_day-lt, epoch_day_range, epoch_day_same}
use Rattle.jiff_core.proofs.SignedLemmas.{signed_arith}
use Rattle.jiff_fmt.specs.Text.{date_text, pad2, pad4}
use Rattle.hv_value.specs.Number.{fitting_u64, u64_of_text}
use Rattle.hv_value.specs.Days.{day_of_parts, day_of_text, has_date_form, has_day, is_day_number}

-- a number between two others
in_range : (low high n : ℕ) → low ≤ n → n ≤ high → is_in_range low high n ≡ true
in_range low high n above below = rw (le-leb low n above, le-leb n high below) refl

-- and what the test says
between : (low high n : ℕ) → is_in_range low high n ≡ true → (low ≤ n) × (n ≤ high)
between low high n e = by (nat_le low n) refl (nat_le n high) refl e
  where
    by : (a : Bool) → nat_le low n ≡ a → (b : Bool) → nat_le n high ≡ b → (a && b) ≡ true → (low ≤ n) × (n ≤ high)
    by true first true second e = (leb-true low n first, leb-true n high second)
    by true first false second e = absurd (cc e)
    by false first b second e = absurd (cc e)

-- a digit and its value
digit-in : (n : ℕ) → n < 10 → is_ascii_digit (48 + n) ≡ true
digit-in n small = in_range 48 57 (48 + n) (omega arith) (omega arith)

digit-is : (n : ℕ) → n < 10 → digit_value (48 + n) ≡ n
digit-is n small = omega (arith, digit_value_digit (48 + n) (omega arith, omega arith))

fits : (n : ℕ) → n < 2 ^ 64 → fitting_u64 n ≡ Some n
fits n small = rw (lt-ltb n (2 ^ 64) small) refl

-- two digits and four digits read back
two-digits : (a b : ℕ) → a < 10 → b < 10 → u64_of_text ((48 + a) ∷ (48 + b) ∷ []) ≡ Some ((0 * 10 + a) * 10 + b)
two-digits a b first second =
    rw (digit-in a first, digit-in b second, digit-is a first, digit-is b second) (fits ((0 * 10 + a) * 10 + b) (omega arith))

four-digits : (a b c d : ℕ) → a < 10 → b < 10 → c < 10 → d < 10
    → u64_of_text ((48 + a) ∷ (48 + b) ∷ (48 + c) ∷ (48 + d) ∷ []) ≡ Some ((((0 * 10 + a) * 10 + b) * 10 + c) * 10 + d)
four-digits a b c d first second third fourth =
    rw (digit-in a first, digit-in b second, digit-in c third, digit-in d fourth, digit-is a first, digit-is b second, digit-is c third, digit-is d fourth)
    (fits ((((0 * 10 + a) * 10 + b) * 10 + c) * 10 + d) (omega arith))

pub pad2-reads : (n : ℕ) → n < 100 → u64_of_text (pad2 n) ≡ Some n
pad2-reads n small = two-digits (n / 10) (n % 10) (omega arith) (omega arith) ∙ ap Some (omega arith)

pub pad4-reads : (n : ℕ) → n < 10000 → u64_of_text (pad4 n) ≡ Some n
pad4-reads n small =
    four-digits (n / 100 / 10) (n / 100 % 10) (n % 100 / 10) (n % 100 % 10) (omega arith) (omega arith) (omega arith) (omega arith) ∙ ap Some (omega arith)

-- a date of the years 1 to 9999 is one of the calendar
date-has_day : (date : Date) (year : ℕ) → date.year ≡ pos year → 1 ≤ year → has_day year date.month date.day ≡ true
date-has_day date year same some =
    let within : year ≤ 9999 = omega (arith, signed_arith, date.year_in, same) in
    let days : 1 ≤ date.day × date.day ≤ days_in_month (pos year) date.month = rw same at date.day_in in
    rw (
      in_range 1 9999 year some within,
      in_range 1 12 date.month date.month_in.0 date.month_in.1,
      in_range 1 (days_in_month (pos year) date.month) date.day days.0 days.1,
    ) refl

-- the text of a date
abbrev pub text_of_date : ℕ → ℕ → ℕ → List ℕ
text_of_date year month day = pad4 year ++ 45 ∷ [] ++ pad2 month ++ 45 ∷ [] ++ pad2 day

-- reads back as its day number
pub text-reads : (date : Date) (year : ℕ) → date.year ≡ pos year → 1 ≤ year → day_of_text (text_of_date year date.month date.day) ≡ Some (epoch_day date)
unfolding day_of_text
text-reads date year same some =
    let within : year < 10000 = omega (arith, signed_arith, date.year_in, same) in
    let month : date.month < 100 = omega (arith, date.month_in) in
    let day : date.day < 100 = omega (arith, date.day_in, days_in_month_bounds date.year date.month) in
    rw (pad4-reads year within, pad2-reads date.month month, pad2-reads date.day day, date-has_day date year same some)
    (ap (λ y. Some (days_from_civil y date.month date.day)) (sym same))

-- and is what jiff prints
pub text-printed : (date : Date) (year : ℕ) → date.year ≡ pos year → text_of_date year date.month date.day ≡ date_text date
text-printed date year same = rw same refl

-- the first day of the year 1
first : Date
first = record { year = pos 1; month = 1; day = 1; year_in = search rules; month_in = search rules; day_in = search rules }

first-day : epoch_day first ≡ negsuc 719161
unfolding first days_from_civil day_count days_of_years days_of_months
first-day = refl

-- a day number from there on is of a year from 1 on
year-from : (date : Date) → negsuc 719161 ≤ℤ epoch_day date → pos 1 ≤ℤ date.year
unfolding first
year-from date from =
    by_lt_z date.year (pos 1)
    (λ before. let less = epoch_day-lt date first (inl before) in absurd (omega (arith, signed_arith, from, less, first-day)))
    (λ after. after)

-- and a date of a year from 1 on has a day number from there on
pub day-from : (date : Date) → pos 1 ≤ℤ date.year → negsuc 719161 ≤ℤ epoch_day date
unfolding first
day-from date some = elim (cases_date date first) [
  | inl before ↦ absurd (not_before before)
  | inr (inl after) ↦ (let more = epoch_day-lt first date after in omega (arith, signed_arith, more, first-day))
  | inr (inr same) ↦ (let is = epoch_day_same date first same.0 same.1 same.2 in omega (arith, signed_arith, is, first-day))
]
  where
    not_before : IsEarlier date first → ⊥
    not_before (inl year) = omega (arith, signed_arith, year, some)
    not_before (inr (year, inl month)) = omega (arith, month, date.month_in)
    not_before (inr (year, inr day)) = omega (arith, day.1, date.day_in)

-- a fact as its test
tested : (b : Bool) → T b → b ≡ true
tested true t = refl
tested false t = absurd t

date-is_day_number : (date : Date) → pos 1 ≤ℤ date.year → is_day_number (epoch_day date) ≡ true
date-is_day_number date some =
    let low = tested (int_le (negsuc 719161) (epoch_day date)) (day-from date some).le in
    let high = tested (int_le (epoch_day date) (pos 2932896)) (epoch_day_range date).1.le in
    rw (low, high) refl

-- what the test of a day number says
day_number-from : (day : ℤ) → is_day_number day ≡ true → negsuc 719161 ≤ℤ day
day_number-from day e = by (int_le (negsuc 719161) day) refl e
  where
    by : (b : Bool) → int_le (negsuc 719161) day ≡ b → (b && int_le day (pos 2932896)) ≡ true → negsuc 719161 ≤ℤ day
    by true low e = record { le = subst T (sym low) tt }
    by false low e = absurd (cc e)

-- a date that has a day number is of a year from 1 on
pub day_number-year : (date : Date) → is_day_number (epoch_day date) ≡ true → pos 1 ≤ℤ date.year
day_number-year date numbered = year-from date (day_number-from (epoch_day date) numbered)

-- the date of a year, a month and a day that the calendar has
made : (year month day : ℕ) → has_day year month day ≡ true → (date : Date) × (date.year ≡ pos year) × (date.month ≡ month) × (date.day ≡ day)
made year month day there =
    let both = and_parts (is_in_range 1 9999 year && is_in_range 1 12 month) (is_in_range 1 (days_in_month (pos year) month) day) there in
    let early = and_parts (is_in_range 1 9999 year) (is_in_range 1 12 month) both.0 in
    let years = between 1 9999 year early.0 in (
      record {
        year = pos year;
        month = month;
        day = day;
        year_in = (omega (arith, signed_arith, years), omega (arith, signed_arith, years));
        month_in = between 1 12 month early.1;
        day_in = between 1 (days_in_month (pos year) month) day both.1;
      },
      refl,
      refl,
      refl,
    )

-- which has a day number
date-numbered : (year month day : ℕ) → has_day year month day ≡ true → is_day_number (days_from_civil (pos year) month day) ≡ true
date-numbered year month day there =
    let date = made year month day there in
    let some : 1 ≤ year = (between 1 9999 year (and_parts (is_in_range 1 9999 year) (is_in_range 1 12 month)
    (and_parts (is_in_range 1 9999 year && is_in_range 1 12 month) (is_in_range 1 (days_in_month (pos year) month) day) there).0).0).0 in
    let from : pos 1 ≤ℤ date.0.year = omega (arith, signed_arith, some, date.1) in
    let numbered = date-is_day_number date.0 from in
    rw (date.1, date.2, date.3) at numbered

-- the day of a text is a day number
pub found-is_day_number : (text : List ℕ) (day : ℤ) → day_of_text text ≡ Some day → is_day_number day ≡ true
unfolding day_of_text
found-is_day_number text day found =
    form (has_date_form text) (u64_of_text (slice_range text 0 4)) (u64_of_text (slice_range text 5 7)) (u64_of_text (slice_range text 8 10)) found
  where
    of_date : (b : Bool) (number : ℤ) → (b ≡ true → is_day_number number ≡ true) → (if b then Some number else None) ≡ Some day → is_day_number day ≡ true
    of_date true number numbered e = let same : number ≡ day = cc e in subst (λ z. is_day_number z ≡ true) same (numbered refl)
    of_date false number numbered e = absurd (cc e)

    parts : (y m d : Option ℕ) → day_of_parts y m d ≡ Some day → is_day_number day ≡ true
    parts None m d e = absurd (cc e)
    parts (Some y) None d e = absurd (cc e)
    parts (Some y) (Some m) None e = absurd (cc e)
    parts (Some y) (Some m) (Some d) e = of_date (has_day y m d) (days_from_civil (pos y) m d) (date-numbered y m d) e

    form : (b : Bool) (y m d : Option ℕ) → (if b then day_of_parts y m d else None) ≡ Some day → is_day_number day ≡ true
    form true y m d e = parts y m d e
    form false y m d e = absurd (cc e)

-- a year of the library comes back from its bits
year-back : (date : Date) → to_z w16 (of_z w16 date.year) ≡ date.year
year-back date = let fits : FitsSigned w16 date.year = omega (arith, signed_arith, date.year_in) in to_z-of_z fits

whole-fits : (z : ℤ) → pos 1 ≤ℤ z → z ≤ℤ pos 9999 → T (non_neg z) × Fits w16 (nat_abs z)
whole-fits (pos n) some most = (tt, let below : n < 2 ^ 16 = omega (arith, signed_arith, most) in search rules)
whole-fits (negsuc n) some most = absurd (omega (arith, signed_arith, some))

whole-is : (z : ℤ) → pos 1 ≤ℤ z → z ≡ pos (nat_abs z)
whole-is (pos n) some = refl
whole-is (negsuc n) some = absurd (omega (arith, signed_arith, some))

-- the year of a date that has a day number, cast to 16 bits without a sign
pub year-fits : (date : Date) → is_day_number (epoch_day date) ≡ true
    → T (non_neg (to_z w16 (of_z w16 date.year))) × Fits w16 (nat_abs (to_z w16 (of_z w16 date.year)))
year-fits date numbered = rw (year-back date) (whole-fits date.year (day_number-year date numbered) date.year_in.1)

pub year-is : (date : Date) → is_day_number (epoch_day date) ≡ true → date.year ≡ pos (nat_abs (to_z w16 (of_z w16 date.year)))
year-is date numbered = rw (year-back date) (whole-is date.year (day_number-year date numbered))

pub numbered-year : (date : Date) (day : ℤ) (year : ℕ) → epoch_day date ≡ day → is_day_number day ≡ true → date.year ≡ pos year → 1 ≤ year
numbered-year date day year number numbered is =
    let some = day_number-year date (rw number numbered) in
    omega (arith, signed_arith, some, is)
