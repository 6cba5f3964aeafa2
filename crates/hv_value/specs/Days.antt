-- Days and their texts, in the calendar that the crate jiff defines. That a text has exactly ten bytes and a year
-- from 0001 to 9999 is this project's own rule.
use Rattle.std.specs.Prelude.{ℕ, ◌≡◌, ℤ, pos, negsuc, List, length, Bool, ◌&&◌, ◌==◌, int_le, slice_index, slice_range, Option, Some, None, if◌then◌else◌}
use Rattle.std.specs.Int.{is_in_range}
use Rattle.std.specs.Option.{option_and_then}
use Rattle.jiff_core.specs.declared.civil.date.Date.{Date}
use Rattle.jiff_core.specs.Calendar.{days_from_civil, days_in_month}
use Rattle.jiff_core.specs.Date.{epoch_day}
use Rattle.jiff_fmt.specs.Text.{date_text}
use Rattle.hv_value.specs.Number.{u64_of_text}

-- whether a number counts the days from 1970-01-01 to a day of the years 0001 to 9999
abbrev pub is_day_number : ℤ → Bool
is_day_number day = int_le (negsuc 719161) day && int_le day (pos 2932896)

-- whether the calendar has this day in the years 1 to 9999
abbrev pub has_day : ℕ → ℕ → ℕ → Bool
has_day year month day = is_in_range 1 9999 year && is_in_range 1 12 month && is_in_range 1 (days_in_month (pos year) month) day

-- the day number of a year, a month and a day, where the calendar has that day
abbrev pub day_of_date : ℕ → ℕ → ℕ → Option ℤ
day_of_date year month day = if has_day year month day then Some (days_from_civil (pos year) month day) else None

-- the same, where all three are numbers
abbrev pub day_of_parts : Option ℕ → Option ℕ → Option ℕ → Option ℤ
day_of_parts year month day = option_and_then (λ y. option_and_then (λ m. option_and_then (day_of_date y m) day) month) year

-- whether a text has ten bytes, with a dash after the fourth and after the seventh
abbrev pub has_date_form : List ℕ → Bool
has_date_form text = (length text == 10) && (slice_index text 4 == 45) && (slice_index text 7 == 45)

-- the day that a text `YYYY-MM-DD` of digits and dashes names, none where it isn't such a text or there is no such day
unfoldable pub day_of_text : List ℕ → Option ℤ
day_of_text text =
    if has_date_form text then day_of_parts (u64_of_text (slice_range text 0 4)) (u64_of_text (slice_range text 5 7)) (u64_of_text (slice_range text 8 10))
    else None

-- the text is what jiff prints for the date of the day number
pub record IsTextOfDay (day : ℤ) (text : List ℕ) : Type 0 where
  pub date : Date
  pub number : epoch_day date ≡ day
  pub printed : text ≡ date_text date
