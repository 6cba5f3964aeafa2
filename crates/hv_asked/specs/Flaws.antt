-- What becomes of fields that may be flawed, of what is asked for beyond its limits, and of what is made of it.
use Rattle.std.specs.Prelude.{List, [], ◌∷◌, Bool, if◌then◌else◌, Option, Some, None, Result, Ok, Err}
use Rattle.hv_asked.specs.declared.why.Why.{Why}
use Rattle.hv_asked.specs.declared.why.Why.TheVariants as why

abbrev pub map_ok : {A B E : Type 0} → (A → B) → Result A E → Result B E
map_ok f (Ok x) = Ok (f x)
map_ok f (Err e) = Err e

abbrev pub and_then : {A B E : Type 0} → (A → Result B E) → Result A E → Result B E
and_then f (Ok x) = f x
and_then f (Err e) = Err e

-- what is made of a field that has to be there
abbrev pub of_field : {A B : Type 0} → Option A → (A → Result B Why) → Result B Why
of_field None make = Err why.Field
of_field (Some x) make = make x

-- what is asked for, where it is within its limits
abbrev pub within : {A : Type 0} → (A → Bool) → A → Result A Why
within fits x = if fits x then Ok x else Err why.Limit

-- what each of a list means, or the first word of those that mean none
abbrev pub all_meant : {A B : Type 0} → (A → Result B Why) → List A → Result (List B) Why
all_meant meant [] = Ok []
all_meant meant (x ∷ xs) = and_then (λ first. map_ok (λ rest. first ∷ rest) (all_meant meant xs)) (meant x)
