-- The fields of a JSON object as messages read them, by serde_json's own words. Each is none where it is absent or has another shape.
use Rattle.std.specs.Prelude.{ℕ, ℤ, List, [], ◌∷◌, Bool, Option, Some, None, option_map, option_and_then}
use Rattle.serde_json.specs.Data.{Data, Items, no_items, item}
use Rattle.serde_json.specs.Find.{get, as_number, as_integer, as_bool, as_str, as_array}

-- the whole number of at most 64 bits under a key
abbrev pub integer_at : List ℕ → Data → Option ℤ
integer_at key value = option_and_then as_integer (option_and_then as_number (get key value))

-- the whole number of at most 64 bits that a value is
abbrev pub integer_in : Data → Option ℤ
integer_in value = option_and_then as_integer (as_number value)

-- a field that may be absent: none where it is
abbrev pub if_there : {A : Type 0} → (Data → Option A) → Option Data → Option (Option A)
if_there read None = Some None
if_there read (Some value) = option_map Some (read value)

-- the whole number under a key that may be absent
abbrev pub integer_if_there : List ℕ → Data → Option (Option ℤ)
integer_if_there key value = if_there integer_in (get key value)

abbrev pub text_at : List ℕ → Data → Option (List ℕ)
text_at key value = option_and_then as_str (get key value)

abbrev pub bool_at : List ℕ → Data → Option Bool
bool_at key value = option_and_then as_bool (get key value)

abbrev pub list_at : List ℕ → Data → Option Items
list_at key value = option_and_then as_array (get key value)

-- what is read of a field that is there
abbrev pub shaped : {A B : Type 0} → Option A → (A → Option B) → Option B
shaped None read = None
shaped (Some x) read = read x

-- what each item of a list reads as, none where one doesn't read
abbrev pub all_read : {A : Type 0} → (Data → Option A) → Items → Option (List A)
all_read read no_items = Some []
all_read read (item value items) = option_and_then (λ first. option_map (λ rest. first ∷ rest) (all_read read items)) (read value)

-- the texts of a list
abbrev pub texts_at : List ℕ → Data → Option (List (List ℕ))
texts_at key value = option_and_then (all_read as_str) (list_at key value)

-- the two values of a list of just two
abbrev pub pair_of_items : Items → Option (Data × Data)
pair_of_items no_items = None
pair_of_items (item first no_items) = None
pair_of_items (item first (item second no_items)) = Some (first, second)
pair_of_items (item first (item second (item more items))) = None

-- the two values of such a list, where a value is one
abbrev pub pair_in : Data → Option (Data × Data)
pair_in value = option_and_then pair_of_items (as_array value)
