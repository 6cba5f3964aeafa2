-- The civil year, month and day of a date's day number are the date's own.
use Rattle.std.proofs.Common.{◌≡◌, ℕ, zero, suc, ◌<◌, ◌≤◌, Bool, true, false, ℤ, pos, ◌≤ℤ◌, ◌<ℤ◌, ◌+ℤ◌, ◌-ℤ◌, refl, sym, ap, subst, ◌∙◌, arith, int_le}
use Rattle.std.specs.Prelude.{nat_le, unsigned_abs}
use Rattle.std.proofs.lemmas.Bool.{leb-true, leb-false}
use Rattle.jiff_core.specs.declared.civil.date.Date.{Date}
use Rattle.jiff_core.specs.Calendar.{IsCivilDate, day_count, days_from_civil}
use Rattle.jiff_core.specs.Date.{epoch_day, ordinal}
use Rattle.jiff_core.proofs.CalendarLemmas.{day_count-lt_month, day_count-lt_year}
use Rattle.jiff_core.proofs.DateLemmas.{civil, epoch_day-ordinal, days_from_civil-day}
use Rattle.jiff_core.proofs.SignedLemmas.{signed_arith}
use Rattle.std.proofs.lemmas.Int.{ints}
use Rattle.hv_value.specs.Civil.{has_begun, last_year, last_month, year_of, month_of, day_of, text_of_day}
use Rattle.hv_value.proofs.DayLemmas.{text_of_date}

-- what begins later is later
lt-days : (y : ℤ) (m d : ℕ) (y2 : ℤ) (m2 d2 : ℕ) → day_count y m d < day_count y2 m2 d2 → days_from_civil y m d <ℤ days_from_civil y2 m2 d2
unfolding days_from_civil
lt-days y m d y2 m2 d2 less = omega (arith, ints, less)

not-begun : (day : ℤ) (year month : ℕ) → day <ℤ days_from_civil (pos year) month 1 → has_begun day year month ≡ false
not-begun day year month later = by (int_le (days_from_civil (pos year) month 1) day) refl
  where
    by : (t : Bool) → int_le (days_from_civil (pos year) month 1) day ≡ t → t ≡ false
    by true e = absurd (omega (arith, ints, later, e))
    by false e = refl

begun : (day : ℤ) (year month : ℕ) → days_from_civil (pos year) month 1 ≤ℤ day → has_begun day year month ≡ true
begun day year month earlier = by (int_le (days_from_civil (pos year) month 1) day) refl
  where
    by : (t : Bool) → int_le (days_from_civil (pos year) month 1) day ≡ t → t ≡ true
    by true e = refl
    by false e = absurd (omega (arith, ints, earlier, e))

-- a number up to another is that or lies below it
by_last : {P : Type 0} (k n : ℕ) → k ≤ suc n → (k ≡ suc n → P) → (k < suc n → P) → P
by_last {P} k n within last below = by (nat_le (suc n) k) refl
  where
    by : (t : Bool) → nat_le (suc n) k ≡ t → P
    by true e = last (omega (arith, within, leb-true (suc n) k e))
    by false e = below (leb-false (suc n) k e)

-- the last that has begun, of years and of months
last_year-is : (n year : ℕ) (day : ℤ) → 1 ≤ year → year ≤ n → has_begun day year 1 ≡ true → ((k : ℕ) → year < k → has_begun day k 1 ≡ false)
    → last_year n day ≡ year
unfolding last_year
last_year-is zero year day some within here later = absurd (omega (arith, some, within))
last_year-is (suc n) year day some within here later = by_last year n within
    (λ same. let last : has_begun day (suc n) 1 ≡ true = subst (λ k. has_begun day k 1 ≡ true) same here in rw last (sym same))
    (λ below.
    rw (later (suc n) below) (last_year-is n year day some (omega (arith, below)) here later))

last_month-is : (n year month : ℕ) (day : ℤ) → 1 ≤ month → month ≤ n → has_begun day year month ≡ true
    → ((k : ℕ) → month < k → has_begun day year k ≡ false) → last_month n year day ≡ month
unfolding last_month
last_month-is zero year month day some within here later = absurd (omega (arith, some, within))
last_month-is (suc n) year month day some within here later = by_last month n within
    (λ same. let last : has_begun day year (suc n) ≡ true = subst (λ k. has_begun day year k ≡ true) same here in rw last (sym same))
    (λ below.
    rw (later (suc n) below) (last_month-is n year month day some (omega (arith, below)) here later))

-- a date of the years 1 to 9999
module _ (date : Date) (year : ℕ) (same : date.year ≡ pos year) (some : 1 ≤ year) where
  is_civil : IsCivilDate (pos year) date.month date.day
  is_civil = subst (λ y. IsCivilDate y date.month date.day) same (civil date)

  number : epoch_day date ≡ days_from_civil (pos year) date.month date.day
  number = ap (λ y. days_from_civil y date.month date.day) same

  month_first : days_from_civil (pos year) date.month 1 +ℤ pos date.day ≡ epoch_day date +ℤ pos 1
  month_first = days_from_civil-day (pos year) date.month 1 date.day (omega arith) date.day_in.0 ∙ ap (λ n. n +ℤ pos 1) (sym number)

  year_begun : days_from_civil (pos year) 1 1 ≤ℤ epoch_day date
  year_begun =
      let first : epoch_day date +ℤ pos 1 ≡ days_from_civil (pos year) 1 1 +ℤ pos (ordinal date)
      = epoch_day-ordinal date ∙ ap (λ y. days_from_civil y 1 1 +ℤ pos (ordinal date)) same in
      omega (arith, ints, first, date.day_in.0)

  year_over : (k : ℕ) → year < k → epoch_day date <ℤ days_from_civil (pos k) 1 1
  year_over k later = subst (λ n. n <ℤ days_from_civil (pos k) 1 1) (sym number)
      (lt-days (pos year) date.month date.day (pos k) 1 1
      (day_count-lt_year (pos year) date.month date.day (pos k) 1 1 is_civil (omega arith) (omega (arith, ints, later))))

  pub year_is : year_of (epoch_day date) ≡ year
  year_is =
      last_year-is 9999 year (epoch_day date) some (omega (arith, signed_arith, date.year_in, same))
      (begun (epoch_day date) year 1 year_begun)
      (λ k later. not-begun (epoch_day date) k 1 (year_over k later))

  month_over : (k : ℕ) → date.month < k → epoch_day date <ℤ days_from_civil (pos year) k 1
  month_over k later = subst (λ n. n <ℤ days_from_civil (pos year) k 1) (sym number)
      (lt-days (pos year) date.month date.day (pos year) k 1
      (day_count-lt_month (pos year) date.month date.day k 1 is_civil (omega arith) later))

  pub month_is : month_of (epoch_day date) ≡ date.month
  month_is =
      ap (λ y. last_month 12 y (epoch_day date)) year_is
      ∙ last_month-is 12 year date.month (epoch_day date) date.month_in.0 date.month_in.1
      (begun (epoch_day date) year date.month (omega (arith, ints, month_first, date.day_in.0)))
      (λ k later. not-begun (epoch_day date) year k (month_over k later))

  pub day_is : day_of (epoch_day date) ≡ pos date.day
  day_is =
      ap (λ y. (epoch_day date -ℤ days_from_civil (pos y) (month_of (epoch_day date)) 1) +ℤ pos 1) year_is
      ∙ ap (λ m. (epoch_day date -ℤ days_from_civil (pos year) m 1) +ℤ pos 1) month_is
      ∙ omega (arith, ints, month_first)

  -- the text of its day number is the date's own text
  pub text_is : text_of_day (epoch_day date) ≡ text_of_date year date.month date.day
  unfolding text_of_day
  text_is =
      ap (λ y. text_of_date y (month_of (epoch_day date)) (unsigned_abs (day_of (epoch_day date)))) year_is
      ∙ ap (λ m. text_of_date year m (unsigned_abs (day_of (epoch_day date)))) month_is
      ∙ ap (λ d. text_of_date year date.month (unsigned_abs d)) day_is
