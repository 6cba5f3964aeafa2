-- The year, month and day of a date are those of its day number.
use Rattle.std.proofs.Common.{◌≡◌, ℕ, ◌≤◌, true, ℤ, pos, sym, ap, ◌∙◌, of_z, to_z, w16, nat_abs}
use Rattle.jiff_core.specs.declared.civil.date.Date.{Date}
use Rattle.jiff_core.specs.Date.{epoch_day}
use Rattle.hv_value.specs.Civil.{day_of, month_of, year_of}
use Rattle.hv_value.specs.Days.{is_day_number}
use Rattle.hv_value.proofs.CivilLemmas.{year_is, month_is, day_is}
use Rattle.hv_value.proofs.DayLemmas.{numbered-year, year-is}

-- of a date with a day number
module _ (date : Date) (day : ℤ) (number : epoch_day date ≡ day) (numbered : is_day_number day ≡ true) where
  whole : (y : ℕ) × (date.year ≡ pos y)
  whole = (nat_abs (to_z w16 (of_z w16 date.year)), year-is date (rw number numbered))

  some : 1 ≤ whole.0
  some = numbered-year date day whole.0 number numbered whole.1

  pub year-of_date : date.year ≡ pos (year_of day)
  year-of_date = whole.1 ∙ ap pos (sym (year_is date whole.0 whole.1 some)) ∙ ap (λ n. pos (year_of n)) number

  pub month-of_date : date.month ≡ month_of day
  month-of_date = sym (month_is date whole.0 whole.1 some) ∙ ap month_of number

  pub day-of_date : pos date.day ≡ day_of day
  day-of_date = sym (day_is date whole.0 whole.1 some) ∙ ap day_of number
