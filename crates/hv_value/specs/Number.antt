-- The whole number that a field of text writes: this project's own rule.
use Rattle.std.specs.Prelude.{ℕ, ℤ, pos, negsuc, neg_ℤ, List, [], ◌∷◌, drop, Option, Some, None, option_map, if◌then◌else◌, nat_lt, ◌^◌}
use Rattle.std.specs.Option.{option_and_then}
use Rattle.std.specs.Str.{all_ascii_digits}
use Rattle.std.specs.Str.Parse.{digits_value, starts_with_minus}

-- the number that one decimal digit or more write
abbrev pub number_of_text : List ℕ → Option ℕ
number_of_text [] = None
number_of_text (d ∷ ds) = if all_ascii_digits (d ∷ ds) then Some (digits_value 10 (d ∷ ds)) else None

-- the number that an optional minus sign and then one decimal digit or more write
abbrev pub whole_number_of_text : List ℕ → Option ℤ
whole_number_of_text text =
    if starts_with_minus text then option_map (λ n. neg_ℤ (pos n)) (number_of_text (drop 1 text))
    else option_map pos (number_of_text text)

-- a number, where it is one of an i64
abbrev pub fitting_i64 : ℤ → Option ℤ
fitting_i64 (pos n) = if nat_lt n (2 ^ 63) then Some (pos n) else None
fitting_i64 (negsuc n) = if nat_lt n (2 ^ 63) then Some (negsuc n) else None

-- the whole number that a text writes, where it is one of an i64
unfoldable pub int_of_text : List ℕ → Option ℤ
int_of_text text = option_and_then fitting_i64 (whole_number_of_text text)

-- a number, where it is one of a u64
abbrev pub fitting_u64 : ℕ → Option ℕ
fitting_u64 n = if nat_lt n (2 ^ 64) then Some n else None

-- the number that decimal digits write, where it is one of a u64
abbrev pub u64_of_text : List ℕ → Option ℕ
u64_of_text text = option_and_then fitting_u64 (number_of_text text)
