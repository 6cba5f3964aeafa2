-- What a text may mean: a view's id is free, and what is cancelled is open.
use Rattle.std.proofs.Common.{◌≡◌, refl, ℕ, pos, negsuc, List, Bool, true, false, Option, Some, None, Ok, Err}
use Rattle.std.specs.Prelude.{if◌then◌else◌, option_map, unsigned_abs, Result, codes}
use Rattle.serde_json.specs.Data.{Data}
use Rattle.hv_lineage.specs.Lineages.{TermOver}
use Rattle.hv_message.specs.declared.asked.Asked.{Asked}
use Rattle.hv_message.specs.declared.asked.Asked.TheVariants.{Load, Over, Combine, Sample, Info, View, Cancel, End}
use Rattle.hv_asked.specs.declared.why.Why.{Why}
use Rattle.hv_asked.specs.declared.why.Why.TheVariants as why
use Rattle.hv_asked.specs.Fields.{text_at}
use Rattle.hv_asked.specs.Flaws.{and_then}
use Rattle.hv_message.specs.Messages.{Known, Meaning, makes, samples, tells, views, cancels, ends, Reading, means, malformed, asked, made_in, sampled_in, opened_in, object_at, of_known, is_open, meaning, id_in, operation, checked, reading_of, with_id, object_of, reading_of_object, reading_of_value, reading}
use Rattle.hv_message.specs.Tables.{loaded}

-- what a session may do at once
abbrev pub IsOpenedOrEnded : Known → Meaning → Type 0
IsOpenedOrEnded k (makes id lineage) = Unit {0}
IsOpenedOrEnded k (samples id of threshold seed) = Unit {0}
IsOpenedOrEnded k (tells id lineage) = Unit {0}
IsOpenedOrEnded k (views id lineage plan) = is_open id k.requests ≡ false
IsOpenedOrEnded k (cancels id request) = is_open request k.requests ≡ true
IsOpenedOrEnded k (ends id) = Unit {0}

abbrev pub IsSound : Known → Reading → Type 0
IsSound k (means m) = IsOpenedOrEnded k m
IsSound k (malformed w id) = Unit {0}

abbrev IsSoundResult : Known → Result Meaning Why → Type 0
IsSoundResult k (Ok m) = IsOpenedOrEnded k m
IsSoundResult k (Err w) = Unit {0}

either_result : (k : Known) (b : Bool) (x y : Result Meaning Why) → IsSoundResult k x → IsSoundResult k y → IsSoundResult k (if b then x else y)
either_result k true x y p q = p
either_result k false x y p q = q

either_reading : (k : Known) (b : Bool) (x y : Reading) → IsSound k x → IsSound k y → IsSound k (if b then x else y)
either_reading k true x y p q = p
either_reading k false x y p q = q

of_each : (k : Known) (object : Option TermOver) (mean : TermOver → Result Meaning Why) → ((lineage : TermOver) → IsSoundResult k (mean lineage))
    → IsSoundResult k (of_known object mean)
of_each k None mean each = tt
of_each k (Some lineage) mean each = each lineage

then_each : {A : Type 0} (k : Known) (mean : A → Result Meaning Why) (r : Result A Why) → ((x : A) → IsSoundResult k (mean x)) → IsSoundResult k (and_then mean r)
then_each k mean (Ok x) each = each x
then_each k mean (Err w) each = tt

made_sound : (k : Known) (id : ℕ) (lineage : TermOver) → IsSoundResult k (made_in k id lineage)
made_sound k id lineage = either_result k _ (Ok (makes id lineage)) (Err why.Full) tt tt

cancelled_sound : (k : Known) (id request : ℕ) (b : Bool) → is_open request k.requests ≡ b
    → IsSoundResult k (if b then Ok (cancels id request) else Err why.Request)
cancelled_sound k id request true e = e
cancelled_sound k id request false e = tt

meaning_sound : (k : Known) (id : ℕ) (a : Asked) → is_open id k.requests ≡ false → IsSoundResult k (meaning k id a)
meaning_sound k id (Load table) free = then_each k (made_in k id) (loaded k.tables table) (made_sound k id)
meaning_sound k id (Over of term) free = of_each k (object_at k.objects of) _ (λ lineage. then_each k (made_in k id) _ (made_sound k id))
meaning_sound k id (Combine how left right) free =
    of_each k (object_at k.objects left) _ (λ l. of_each k (object_at k.objects right) _ (λ r. then_each k (made_in k id) _ (made_sound k id)))
meaning_sound k id (Sample of threshold seed) free =
    of_each k (object_at k.objects of) _ (λ lineage.
    then_each k (sampled_in k id (unsigned_abs threshold) (option_map unsigned_abs seed)) _ (λ deep. either_result k _ (Ok (samples id deep (unsigned_abs threshold) (option_map unsigned_abs seed))) (Err why.Full) tt tt))
meaning_sound k id (Info of) free = of_each k (object_at k.objects of) _ (λ lineage. tt)
meaning_sound k id (View of v) free =
    of_each k (object_at k.objects of) _ (λ lineage. then_each k (opened_in k id lineage) _ (λ plan. either_result k _ (Ok (views id lineage plan)) (Err why.Full) free tt))
meaning_sound k id (Cancel (pos request)) free = cancelled_sound k id request (is_open request k.requests) refl
meaning_sound k id (Cancel (negsuc request)) free = tt
meaning_sound k id End free = tt

operation_sound : (k : Known) (id : ℕ) (value : Data) (op : Option (List ℕ)) → is_open id k.requests ≡ false → IsSoundResult k (operation k id value op)
operation_sound k id value None free = tt
operation_sound k id value (Some op) free = then_each k (meaning k id) (asked value op) (λ a. meaning_sound k id a free)

free_sound : (k : Known) (id : ℕ) (value : Data) (b : Bool) → is_open id k.requests ≡ b
    → IsSoundResult k (if b then Err why.Busy else operation k id value (text_at (codes "op") value))
free_sound k id value true e = tt
free_sound k id value false e = operation_sound k id value (text_at (codes "op") value) e

of_result : (k : Known) (id : ℕ) (r : Result Meaning Why) → IsSoundResult k r → IsSound k (reading_of id r)
of_result k id (Ok m) sound = sound
of_result k id (Err w) sound = tt

id_sound : (k : Known) (value : Data) (id : Option ℕ) → IsSound k (with_id k value id)
id_sound k value None = tt
id_sound k value (Some id) =
    of_result k id (checked k id value) (either_result k k.ended (Err why.Ended) _ tt (free_sound k id value (is_open id k.requests) refl))

value_sound : (k : Known) (value : Data) → IsSound k (reading_of_value k value)
unfolding reading_of_value
value_sound k value = id_sound k value (id_in value)

object_sound : (k : Known) (value : Option Data) → IsSound k (reading_of_object k value)
object_sound k None = tt
object_sound k (Some value) = value_sound k value

pub reading_sound : (k : Known) (text : List ℕ) → IsSound k (reading k text)
unfolding reading
reading_sound k text = either_reading k _ (reading_of_object k (object_of text)) (malformed why.Size None) (object_sound k (object_of text)) tt
