-- Each day number of the years 1 to 9999 is that of a date, whose text reads back as the number.
use Rattle.std.proofs.Common.{◌≡◌, ◌+◌, ◌-◌, ◌≤◌, ◌<◌, ◌∙◌, inl, inr, ℕ, zero, suc, ℤ, pos, negsuc, ◌+ℤ◌, ◌≤ℤ◌, ◌<ℤ◌, Bool, true, false, ◌&&◌, int_le, Some, refl, sym, ap, subst, arith, rules}
use Rattle.std.proofs.lemmas.Bool.{cases_lt}
use Rattle.std.proofs.lemmas.Int.{by_lt_z, ints}
use Rattle.jiff_core.specs.Calendar.{day_count, days_from_civil, days_in_month, days_of_months, days_of_years}
use Rattle.jiff_core.specs.Date.{epoch_day}
use Rattle.jiff_core.specs.declared.civil.date.Date.{Date}
use Rattle.jiff_core.proofs.CalendarLemmas.{days_in_month_bounds}
use Rattle.jiff_core.proofs.DateLemmas.{days_from_civil-day, days_from_civil-max, days_from_civil-next_month, days_from_civil-next_year}
use Rattle.jiff_core.proofs.SignedLemmas.{signed_arith}
use Rattle.hv_value.specs.Civil.{text_of_day}
use Rattle.hv_value.specs.Days.{day_of_text, is_day_number}
use Rattle.hv_value.proofs.CivilLemmas.{text_is}
use Rattle.hv_value.proofs.DayLemmas.{text-reads}

-- a day number is that of a date of a year from 1 on
pub record Dated (day : ℤ) : Type 0 where
  pub date : Date
  pub some : pos 1 ≤ℤ date.year
  pub number : epoch_day date ≡ day

-- ---- the day after

module _ (day : ℤ) (d : Dated day) where
  later_day : d.date.day < days_in_month d.date.year d.date.month → Dated (day +ℤ pos 1)
  later_day inner = record {
    date = record {
      year = d.date.year;
      month = d.date.month;
      day = d.date.day + 1;
      year_in = d.date.year_in;
      month_in = d.date.month_in;
      day_in = (omega arith, omega arith);
    };
    some = d.some;
    number =
        let next = days_from_civil-day d.date.year d.date.month d.date.day (d.date.day + 1) d.date.day_in.0 (omega arith) in
        omega (arith, ints, next, d.number);
  }

  later_month : d.date.day ≡ days_in_month d.date.year d.date.month → d.date.month < 12 → Dated (day +ℤ pos 1)
  later_month last inner = record {
    date = record {
      year = d.date.year;
      month = d.date.month + 1;
      day = 1;
      year_in = d.date.year_in;
      month_in = (omega arith, omega arith);
      day_in = (omega arith, let long = days_in_month_bounds d.date.year (d.date.month + 1) in omega (arith, long));
    };
    some = d.some;
    number =
        let next = days_from_civil-next_month d.date.year d.date.month d.date.day d.date.month_in.0 last in
        omega (arith, ints, next, d.number);
  }

  later_year : d.date.day ≡ days_in_month d.date.year d.date.month → d.date.month ≡ 12 → d.date.year <ℤ pos 9999 → Dated (day +ℤ pos 1)
  later_year last december before = record {
    date = record {
      year = d.date.year +ℤ pos 1;
      month = 1;
      day = 1;
      year_in = (omega (arith, ints, d.some), omega (arith, ints, before));
      month_in = (omega arith, omega arith);
      day_in = (omega arith, let long = days_in_month_bounds (d.date.year +ℤ pos 1) 1 in omega (arith, long));
    };
    some = omega (arith, ints, d.some);
    number =
        let thirty_one : d.date.day ≡ 31 = last ∙ ap (λ m. days_in_month d.date.year m) december in
        let here : days_from_civil d.date.year 12 31 ≡ day
        = sym (ap (λ m. days_from_civil d.date.year m d.date.day) december ∙ ap (λ n. days_from_civil d.date.year 12 n) thirty_one) ∙ d.number in
        let next = days_from_civil-next_year d.date.year (d.date.year +ℤ pos 1) (omega (arith, ints, d.some)) refl in
        omega (arith, ints, next, here);
  }

  -- the last day of the year 9999 is the last of all
  not_last : d.date.day ≡ days_in_month d.date.year d.date.month → d.date.month ≡ 12 → pos 9999 ≤ℤ d.date.year → day ≡ pos 2932896
  not_last last december after =
      let thirty_one : d.date.day ≡ 31 = last ∙ ap (λ m. days_in_month d.date.year m) december in
      let nines : d.date.year ≡ pos 9999 = omega (arith, signed_arith, d.date.year_in, after) in
      sym d.number ∙ ap (λ m. days_from_civil d.date.year m d.date.day) december ∙ ap (λ n. days_from_civil d.date.year 12 n) thirty_one
      ∙ ap (λ y. days_from_civil y 12 31) nines ∙ days_from_civil-max

  the_day_after : day <ℤ pos 2932896 → Dated (day +ℤ pos 1)
  the_day_after before = elim (cases_lt d.date.day (days_in_month d.date.year d.date.month)) [
    | inl inner ↦ later_day inner
    | inr outer ↦ (
        let last : d.date.day ≡ days_in_month d.date.year d.date.month = omega (arith, d.date.day_in) in
        elim (cases_lt d.date.month 12) [
          | inl inner ↦ later_month last inner
          | inr over ↦ (
              let december : d.date.month ≡ 12 = omega (arith, d.date.month_in) in
              by_lt_z d.date.year (pos 9999) (λ less. later_year last december less)
              (λ after. let end : day ≡ pos 2932896 = not_last last december after in absurd (omega (arith, ints, end, before)))
              )
        ]
        )
  ]

-- ---- all of them, from the first on

first_day : Dated (negsuc 719161)
unfolding days_from_civil day_count days_of_years days_of_months
first_day = record {
  date = record { year = pos 1; month = 1; day = 1; year_in = search rules; month_in = search rules; day_in = search rules };
  some = search rules;
  number = refl;
}

all_days : (n : ℕ) → n < 3652059 → Dated (negsuc 719161 +ℤ pos n)
all_days zero below = subst Dated (omega (arith, ints)) first_day
all_days (suc n) below =
    subst Dated (omega (arith, ints)) (the_day_after (negsuc 719161 +ℤ pos n) (all_days n (omega arith)) (omega (arith, ints, below)))

day_dated : (day : ℤ) → negsuc 719161 ≤ℤ day → day ≤ℤ pos 2932896 → Dated day
day_dated (pos k) low high = subst Dated (omega (arith, ints)) (all_days (k + 719162) (omega (arith, ints, high)))
day_dated (negsuc k) low high =
    let small : k ≤ 719161 = omega (arith, ints, low) in
    subst Dated (omega (arith, ints, small)) (all_days (719161 - k) (omega arith))

-- ---- so each text reads back

natural : (y : ℤ) → pos 1 ≤ℤ y → (n : ℕ) × (y ≡ pos n) × (1 ≤ n)
natural (pos n) some = (n, refl, omega (arith, ints, some))
natural (negsuc n) some = absurd (omega (arith, ints, some))

dated_back : (day : ℤ) → Dated day → day_of_text (text_of_day day) ≡ Some day
dated_back day d =
    let year = natural d.date.year d.some in
    ap (λ n. day_of_text (text_of_day n)) (sym d.number) ∙ ap day_of_text (text_is d.date year.0 year.1 year.2)
    ∙ text-reads d.date year.0 year.1 year.2 ∙ ap Some d.number

pub day_back : (day : ℤ) → is_day_number day ≡ true → day_of_text (text_of_day day) ≡ Some day
day_back day e = by (int_le (negsuc 719161) day) refl (int_le day (pos 2932896)) refl e
  where
    by : (a : Bool) → int_le (negsuc 719161) day ≡ a → (b : Bool) → int_le day (pos 2932896) ≡ b → (a && b) ≡ true → day_of_text (text_of_day day) ≡ Some day
    by true low true high f = dated_back day (day_dated day (omega (arith, ints, low)) (omega (arith, ints, high)))
    by true low false high f = absurd (cc f)
    by false low b high f = absurd (cc f)
