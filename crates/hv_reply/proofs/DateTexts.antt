-- The text of a date is ASCII.
use Rattle.std.proofs.Common.{◌+◌, ◌<◌, ◌/◌, ◌%◌, ℕ, zero, suc, ℤ, pos, negsuc, List, [], ◌∷◌, ◌++◌, IsAscii, IsUtf8, Result, Ok, Err, IsOk, MatchResult, refl, sym, subst, arith}
use Rattle.std.proofs.lemmas.Str.{IsUtf8-from_ascii}
use Rattle.jiff_core.specs.declared.civil.date.Date.{Date}
use Rattle.jiff_core.specs.Calendar.{IsYear}
use Rattle.jiff_core.proofs.SignedLemmas.{signed_arith}
use Rattle.jiff_core.proofs.CalendarLemmas.{days_in_month_bounds}
use Rattle.jiff_fmt.specs.Text.{date_text, pad2, year_text}
use Rattle.hv_value.specs.Days.{IsTextOfDay}

more : (c : ℕ) (xs : List ℕ) → c < 128 → IsAscii xs → IsAscii (c ∷ xs)
more c xs small all zero = small
more c xs small all (suc i) = all i

none : IsAscii []
none i = omega arith

-- two digits, and four
two : (n : ℕ) → n < 100 → (xs : List ℕ) → IsAscii xs → IsAscii ((48 + n / 10) ∷ (48 + n % 10) ∷ xs)
two n small xs all = more (48 + n / 10) ((48 + n % 10) ∷ xs) (omega arith) (more (48 + n % 10) xs (omega arith) all)

abbrev four_then : ℕ → List ℕ → List ℕ
four_then n xs = (48 + n / 100 / 10) ∷ (48 + n / 100 % 10) ∷ (48 + n % 100 / 10) ∷ (48 + n % 100 % 10) ∷ xs

four : (n : ℕ) → n < 10000 → (xs : List ℕ) → IsAscii xs → IsAscii (four_then n xs)
four n small xs all =
    two (n / 100) (omega arith) ((48 + n % 100 / 10) ∷ (48 + n % 100 % 10) ∷ xs) (two (n % 100) (omega arith) xs all)

-- the month and the day after the year
abbrev rest : ℕ → ℕ → List ℕ
rest month day = 45 ∷ (48 + month / 10) ∷ (48 + month % 10) ∷ 45 ∷ (48 + day / 10) ∷ (48 + day % 10) ∷ []

rest_ascii : (month day : ℕ) → month < 100 → day < 100 → IsAscii (rest month day)
rest_ascii month day m d =
    more 45 ((48 + month / 10) ∷ (48 + month % 10) ∷ 45 ∷ (48 + day / 10) ∷ (48 + day % 10) ∷ []) (omega arith)
    (two month m (45 ∷ (48 + day / 10) ∷ (48 + day % 10) ∷ []) (more 45 ((48 + day / 10) ∷ (48 + day % 10) ∷ []) (omega arith) (two day d [] none)))

abbrev printed : ℤ → ℕ → ℕ → List ℕ
printed y month day = year_text y ++ 45 ∷ [] ++ pad2 month ++ 45 ∷ [] ++ pad2 day

printed_ascii : (y : ℤ) (month day : ℕ) → IsYear y → month < 100 → day < 100 → IsAscii (printed y month day)
printed_ascii (pos n) month day within m d = four n (omega (arith, signed_arith, within)) (rest month day) (rest_ascii month day m d)
printed_ascii (negsuc n) month day within m d =
    let digits : List ℕ = four_then (suc n) (rest month day) in
    let ascii : IsAscii digits = four (suc n) (omega (arith, signed_arith, within)) (rest month day) (rest_ascii month day m d) in
    more 45 (48 ∷ 48 ∷ digits) (omega arith) (more 48 (48 ∷ digits) (omega arith) (more 48 digits (omega arith) ascii))

date_ascii : (d : Date) → IsAscii (date_text d)
date_ascii d =
    let days = days_in_month_bounds d.year d.month in
    printed_ascii d.year d.month d.day d.year_in (omega (arith, d.month_in)) (omega (arith, d.day_in, days))

-- so it is UTF-8
pub day_text_utf8 : (day : ℤ) (text : List ℕ) → IsTextOfDay day text → IsUtf8 text
day_text_utf8 day text is = subst IsUtf8 (sym is.printed) (IsUtf8-from_ascii (date_text is.date) (date_ascii is.date))

-- where an error would say that it isn't, there is none
pub is_ok_where : {T E : Type 0} (r : Result T E) (P : T → Type 0) (Q : E → Type 0) (text : List ℕ) → IsUtf8 text
    → MatchResult r P (λ e. (IsUtf8 text → ⊥) × Q e) → IsOk r
is_ok_where (Ok x) P Q text is h = refl
is_ok_where (Err e) P Q text is h = absurd (h.0 is)
