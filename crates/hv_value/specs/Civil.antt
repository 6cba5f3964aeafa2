-- The civil year, month and day of a day number, and its text, in the calendar that the crate jiff defines.
use Rattle.std.specs.Prelude.{ℕ, zero, suc, ℤ, pos, unsigned_abs, ◌-ℤ◌, ◌+ℤ◌, List, [], ◌∷◌, ◌++◌, Bool, int_le, if◌then◌else◌}
use Rattle.jiff_core.specs.Calendar.{days_from_civil}
use Rattle.jiff_fmt.specs.Text.{pad2, pad4}

-- whether a month of a year has begun by a day
abbrev pub has_begun : ℤ → ℕ → ℕ → Bool
has_begun day year month = int_le (days_from_civil (pos year) month 1) day

-- the last year up to one that has begun by a day, 0 where none has
unfoldable pub last_year : ℕ → ℤ → ℕ
last_year zero day = 0
last_year (suc n) day = if has_begun day (suc n) 1 then suc n else last_year n day

-- the last month up to one that has begun by a day in a year, 0 where none has
unfoldable pub last_month : ℕ → ℕ → ℤ → ℕ
last_month zero year day = 0
last_month (suc n) year day = if has_begun day year (suc n) then suc n else last_month n year day

-- the year of a day of the years 1 to 9999
abbrev pub year_of : ℤ → ℕ
year_of day = last_year 9999 day

-- its month, from 1
abbrev pub month_of : ℤ → ℕ
month_of day = last_month 12 (year_of day) day

-- its day of the month, from 1
abbrev pub day_of : ℤ → ℤ
day_of day = (day -ℤ days_from_civil (pos (year_of day)) (month_of day) 1) +ℤ pos 1

-- its text `YYYY-MM-DD`
unfoldable pub text_of_day : ℤ → List ℕ
text_of_day day = pad4 (year_of day) ++ 45 ∷ [] ++ pad2 (month_of day) ++ 45 ∷ [] ++ pad2 (unsigned_abs (day_of day))
