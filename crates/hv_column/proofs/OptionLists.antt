-- Values that may be missing, kept as values and marks.
use Rattle.std.proofs.Common.{◌≡◌, ◌<◌, ◌∷◌, ◌++◌, [], ℕ, zero, suc, List, Bool, Option, Some, None, true, false, refl, ap, length, get_or, arith}
use Rattle.std.proofs.lemmas.Option.{slice_get_read}
use Rattle.std.specs.Prelude.{if◌then◌else◌, slice_get}
use Rattle.std.specs.Option.{UnwrapsOrElse, is_some}
use Rattle.hv_column.specs.Nullable.{options_of}

-- as many options as values, where there is a mark for each
pub length-options_of : {T : Type 0} (marks : List Bool) (values : List T) → length marks ≡ length values
    → length (options_of marks values) ≡ length values
length-options_of [] [] same = refl
length-options_of [] (value ∷ values) same = absurd (omega (arith, same))
length-options_of (mark ∷ marks) [] same = refl
length-options_of (mark ∷ marks) (value ∷ values) same =
    let more : length marks ≡ length values = omega (arith, same) in
    ap suc (length-options_of marks values more)

-- one more mark and value are one more option
pub options_of-append : {T : Type 0} (marks : List Bool) (values : List T) (mark : Bool) (value : T) → length marks ≡ length values
    → options_of (marks ++ mark ∷ []) (values ++ value ∷ []) ≡ options_of marks values ++ (if mark then Some value else None) ∷ []
options_of-append [] [] mark value same = refl
options_of-append [] (first ∷ values) mark value same = absurd (omega (arith, same))
options_of-append (first ∷ marks) [] mark value same = absurd (omega (arith, same))
options_of-append (m ∷ marks) (v ∷ values) mark value same =
    let more : length marks ≡ length values = omega (arith, same) in
    ap (λ (rest : List _). (if m then Some v else None) ∷ rest) (options_of-append marks values mark value more)

-- a value that may be missing, as its mark and what keeps its place say it
kept_option : {T : Type 0} (value : Option T) (Fills : T → Type 0) (kept : T) → UnwrapsOrElse value Fills kept
    → (if is_some value then Some kept else None) ≡ value
kept_option None Fills kept fills = refl
kept_option (Some x) Fills kept fills = ap Some fills

-- the options after a value that may be missing was added
pub options-after_push : {T : Type 0} (old : List (Option T)) (marks marks_new : List Bool) (values values_new : List T)
    (value : Option T) (Fills : T → Type 0) (kept : T)
    → length marks ≡ length values → options_of marks values ≡ old
    → marks_new ≡ marks ++ is_some value ∷ [] → values_new ≡ values ++ kept ∷ [] → UnwrapsOrElse value Fills kept
    → options_of marks_new values_new ≡ old ++ value ∷ []
options-after_push old marks marks_new values values_new value Fills kept same was marks_are values_are fills =
    rw (marks_are, values_are) (rw (options_of-append marks values (is_some value) kept same, was, kept_option value Fills kept fills) refl)

-- a place whose mark says so has its value
pub slice_get-present : {T : Type 0} (marks : List Bool) (values : List T) (i : ℕ) (value : T)
    → slice_get marks i ≡ Some true → slice_get values i ≡ Some value → slice_get (options_of marks values) i ≡ Some (Some value)
slice_get-present [] values i value marked there = absurd (cc marked)
slice_get-present (m ∷ marks) [] i value marked there = absurd (cc there)
slice_get-present (m ∷ marks) (v ∷ values) zero value marked there =
    let yes : m ≡ true = cc marked in
    let same : v ≡ value = cc there in
    rw (yes, same) refl
slice_get-present (m ∷ marks) (v ∷ values) (suc i) value marked there = slice_get-present marks values i value marked there

-- a place whose mark says so has none
pub slice_get-absent : {T : Type 0} (marks : List Bool) (values : List T) (i : ℕ)
    → slice_get marks i ≡ Some false → i < length values → slice_get (options_of marks values) i ≡ Some None
slice_get-absent [] values i marked within = absurd (cc marked)
slice_get-absent (m ∷ marks) [] i marked within = absurd (omega (arith, within))
slice_get-absent (m ∷ marks) (v ∷ values) zero marked within =
    let no : m ≡ false = cc marked in
    rw no refl
slice_get-absent (m ∷ marks) (v ∷ values) (suc i) marked within =
    let more : i < length values = omega (arith, within) in
    slice_get-absent marks values i marked more

-- a read of a list at a place
pub slice_get-read : {T : Type 0} (xs : List T) (i : ℕ) (found x : T) → found ≡ get_or xs i found → found ≡ x → i < length xs
    → slice_get xs i ≡ Some x
slice_get-read xs i found x read same within = rw (← same) (slice_get_read xs (length xs) i found refl within read)
