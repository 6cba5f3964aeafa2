-- What a text means as a message in a session, or the word that says why it is malformed. The checks come in a fixed order, and
-- the first that fails decides: this project's own rule.
use Rattle.std.specs.Prelude.{ℕ, ℤ, pos, negsuc, unsigned_abs, List, length, position, remove, Bool, true, ◌&&◌, ◌==◌, nat_lt, nat_le, if◌then◌else◌, Option, Some, None, option_and_then, option_map, is_some, slice_get, Result, Ok, Err, bytes_eq, codes}
use Rattle.std.specs.List.{list_any}
use Rattle.serde_json.specs.Data.{Data}
use Rattle.serde_json.specs.Find.{get, as_number, as_u64, as_object}
use Rattle.serde_json.specs.Read.{read}
use Rattle.hv_value.specs.Catalog.{Tables}
use Rattle.hv_lineage.specs.Lineages.{TermOver, lineage_columns, room_refusal}
use Rattle.hv_lineage.specs.declared.how.How2.{How2}
use Rattle.hv_view.specs.declared.plan.Plan.{Plan}
use Rattle.hv_message.specs.declared.asked.Asked.{Asked}
use Rattle.hv_message.specs.declared.asked.Asked.TheVariants.{Load, Over, Combine, Sample, Info, View, Cancel, End}
use Rattle.hv_message.specs.declared.asked.TermAsked.{TermAsked}
use Rattle.hv_asked.specs.declared.limits.TheConstants.{MAX_ID, MAX_MESSAGE_BYTES, MAX_OBJECTS, MAX_OPEN}
use Rattle.hv_asked.specs.declared.why.Why.{Why}
use Rattle.hv_asked.specs.declared.why.Why.TheVariants as why
use Rattle.hv_asked.specs.Fields.{integer_at, integer_if_there, text_at}
use Rattle.hv_asked.specs.Flaws.{map_ok, and_then, of_field, within}
use Rattle.hv_asked.specs.Tables.{fits_table, table_in}
use Rattle.hv_message.specs.Tables.{loaded}
use Rattle.hv_message.specs.Samples.{is_seed_if_given, is_threshold}
use Rattle.hv_message.specs.Terms.{applied, both_combined, derive_of, filter_of, fits_term, project_of, unless_refused}
use Rattle.hv_message.specs.Views.{fits_view, planned, view_in}
use Rattle.hv_message.specs.Words.{how2_in}

-- what a session knows: the catalog, its objects by number, the ids of its open requests, whether it heard `end`
pub record Known : Type 0 where
  pub tables : Tables
  pub objects : List TermOver
  pub requests : List ℕ
  pub ended : Bool

-- what a message means: an object to be made, the rows of an object to be picked at a threshold, by a seed that is given or drawn, a
-- question about an object, a view of an object, the end of a request, the end
pub data Meaning : Type 0 where
  makes : ℕ → TermOver → Meaning
  samples : ℕ → TermOver → ℕ → Option ℕ → Meaning
  tells : ℕ → TermOver → Meaning
  views : ℕ → TermOver → Plan → Meaning
  cancels : ℕ → ℕ → Meaning
  ends : ℕ → Meaning

-- a text is a message, or is malformed for a word, with its id where that is known
pub data Reading : Type 0 where
  means : Meaning → Reading
  malformed : Why → Option ℕ → Reading

-- ---- what an operation asks for, before anything is looked up

-- the number of the object that an operation is of
abbrev pub of_object : Data → (ℤ → Result Asked Why) → Result Asked Why
of_object value = of_field (integer_at (codes "of") value)

-- a term over an object
abbrev pub over_asked : (Data → Result TermAsked Why) → Data → Result Asked Why
over_asked read value = of_object value (λ of. map_ok (Over of) (read value))

-- two objects, the left one and the right one, combined
abbrev pub combine_asked : Data → Result Asked Why
combine_asked value = of_field (how2_in value) (λ how. of_field (integer_at (codes "left") value) (λ left.
    of_field (integer_at (codes "right") value) (λ right. Ok (Combine how left right))))

-- a sample of an object: a threshold, and a seed, which may be absent
abbrev pub sample_asked : Data → Result Asked Why
sample_asked value = of_object value (λ of. of_field (integer_at (codes "threshold") value) (λ threshold.
    of_field (integer_if_there (codes "seed") value) (λ seed. Ok (Sample of threshold seed))))

-- what an operation asks for, by its word
abbrev pub shape : Data → List ℕ → Result Asked Why
shape value op =
    if bytes_eq op (codes "load") then map_ok Load (table_in (codes "table") value)
    else if bytes_eq op (codes "filter") then over_asked filter_of value
    else if bytes_eq op (codes "project") then over_asked project_of value
    else if bytes_eq op (codes "derive") then over_asked derive_of value
    else if bytes_eq op (codes "combine") then combine_asked value
    else if bytes_eq op (codes "sample") then sample_asked value
    else if bytes_eq op (codes "info") then of_object value (λ of. Ok (Info of))
    else if bytes_eq op (codes "view") then of_object value (λ of. of_field (view_in value) (λ v. Ok (View of v)))
    else if bytes_eq op (codes "cancel") then of_field (integer_at (codes "request") value) (λ request. Ok (Cancel request))
    else if bytes_eq op (codes "end") then Ok End
    else Err why.Op

-- whether what is asked for is within its limits
abbrev pub fits : Asked → Bool
fits (Load table) = fits_table table
fits (Over of term) = fits_term term
fits (Combine how left right) = true
fits (Sample of threshold seed) = is_threshold threshold && is_seed_if_given seed
fits (Info of) = true
fits (View of view) = fits_view view
fits (Cancel request) = true
fits End = true

abbrev pub asked : Data → List ℕ → Result Asked Why
asked value op = and_then (within fits) (shape value op)

-- ---- what it means in the session

-- an object is made while there is room for one more
abbrev pub made_in : Known → ℕ → TermOver → Result Meaning Why
made_in known id lineage = if nat_lt (length known.objects) MAX_OBJECTS then Ok (makes id lineage) else Err why.Full

-- a request is opened while there is room for one more
abbrev pub opened_in : Known → ℕ → TermOver → Plan → Result Meaning Why
opened_in known id lineage plan = if nat_lt (length known.requests) MAX_OPEN then Ok (views id lineage plan) else Err why.Full

-- the object with a number
abbrev pub object_at : List TermOver → ℤ → Option TermOver
object_at objects (pos n) = slice_get objects n
object_at objects (negsuc n) = None

-- what an operation means of the object that it names
abbrev pub of_known : Option TermOver → (TermOver → Result Meaning Why) → Result Meaning Why
of_known None mean = Err why.Object
of_known (Some lineage) mean = mean lineage

-- whether an id is that of an open request
abbrev pub is_open : ℕ → List ℕ → Bool
is_open id requests = list_any (λ request. request == id) requests

-- a list without the element at a place, where there is one
abbrev pub without : {A : Type 0} → Option ℕ → List A → List A
without None xs = xs
without (Some place) xs = remove xs place

-- the ids without the first that is this one
abbrev pub closed : ℕ → List ℕ → List ℕ
closed id requests = without (position (λ request. request == id) requests) requests

abbrev pub cancelled : Known → ℕ → ℤ → Result Meaning Why
cancelled known id (pos request) = if is_open request known.requests then Ok (cancels id request) else Err why.Request
cancelled known id (negsuc request) = Err why.Request

-- two objects are combined, the left one looked up first
abbrev pub combined_in : Known → ℕ → How2 → Option TermOver → Option TermOver → Result Meaning Why
combined_in known id how left right = of_known left (λ l. of_known right (λ r. and_then (made_in known id) (both_combined how l r)))

-- a sample is taken while there is room for one object more
abbrev pub sampled_in : Known → ℕ → ℕ → Option ℕ → TermOver → Result Meaning Why
sampled_in known id threshold seed lineage = if nat_lt (length known.objects) MAX_OBJECTS then Ok (samples id lineage threshold seed) else Err why.Full

-- what is asked for means in a session
abbrev pub meaning : Known → ℕ → Asked → Result Meaning Why
meaning known id (Load table) = and_then (made_in known id) (loaded known.tables table)
meaning known id (Over of term) = of_known (object_at known.objects of) (λ lineage. and_then (made_in known id) (applied term lineage))
meaning known id (Combine how left right) = combined_in known id how (object_at known.objects left) (object_at known.objects right)
meaning known id (Sample of threshold seed) = of_known (object_at known.objects of) (λ lineage.
    and_then (sampled_in known id (unsigned_abs threshold) (option_map unsigned_abs seed)) (unless_refused (room_refusal lineage) lineage))
meaning known id (Info of) = of_known (object_at known.objects of) (λ lineage. Ok (tells id lineage))
meaning known id (View of v) = of_known (object_at known.objects of) (λ lineage.
    and_then (opened_in known id lineage) (planned (lineage_columns lineage) v))
meaning known id (Cancel request) = cancelled known id request
meaning known id End = Ok (ends id)

-- what an operation means in a session
abbrev pub operated : Known → ℕ → Data → List ℕ → Result Meaning Why
operated known id value op = and_then (meaning known id) (asked value op)

-- ---- the checks common to all

-- a message's id: a whole number within its limit
abbrev pub id_in : Data → Option ℕ
id_in value =
    option_and_then (λ id. if nat_le id MAX_ID then Some id else None) (option_and_then as_u64 (option_and_then as_number (get (codes "id") value)))

abbrev pub operation : Known → ℕ → Data → Option (List ℕ) → Result Meaning Why
operation known id value None = Err why.Op
operation known id value (Some op) = operated known id value op

-- what an object means with an id: the session goes on, the id is free, then the operation
abbrev pub checked : Known → ℕ → Data → Result Meaning Why
checked known id value =
    if known.ended then Err why.Ended
    else if is_open id known.requests then Err why.Busy
    else operation known id value (text_at (codes "op") value)

abbrev pub reading_of : ℕ → Result Meaning Why → Reading
reading_of id (Ok m) = means m
reading_of id (Err w) = malformed w (Some id)

abbrev pub with_id : Known → Data → Option ℕ → Reading
with_id known value None = malformed why.Id None
with_id known value (Some id) = reading_of id (checked known id value)

-- a value, where it is an object
abbrev pub as_object_value : Data → Option Data
as_object_value value = if is_some (as_object value) then Some value else None

-- the value of a text, where it is an object
abbrev pub object_of : List ℕ → Option Data
object_of text = option_and_then as_object_value (read text)

-- the id that a text shows, where it shows one
abbrev pub id_of_text : List ℕ → Option ℕ
id_of_text text = option_and_then id_in (object_of text)

unfoldable pub reading_of_value : Known → Data → Reading
reading_of_value known value = with_id known value (id_in value)

abbrev pub reading_of_object : Known → Option Data → Reading
reading_of_object known None = malformed why.Json None
reading_of_object known (Some value) = reading_of_value known value

-- what a text means in a session
unfoldable pub reading : Known → List ℕ → Reading
reading known text = if nat_le (length text) MAX_MESSAGE_BYTES then reading_of_object known (object_of text) else malformed why.Size None
