-- What the values that the code reads mean.
use Rattle.std.specs.Prelude.{◌≡◌, ◌⊎◌, ◌<◌, ◌≤◌, ◌^◌, ℕ, length, true, false, Option, Some, None, Result, Ok, Err}
use Rattle.std.specs.Arc.{arc_value}
use Rattle.std.specs.declared.alloc.Global.{Global}
use Rattle.std.specs.declared.sync.Arc.{Arc}
use Rattle.hv_expr.specs.Checks.{has_fit_factors, is_fit_factor}
use Rattle.hv_lineage.specs.Lineages.{TermOver, lineage_columns, room_refusal}
use Rattle.hv_lineage.specs.declared.error.LineageErr.{LineageErr}
use Rattle.hv_lineage.specs.declared.lineage.Lineage.{Lineage}
use Rattle.hv_message.specs.declared.message.Message.{Message}
use Rattle.hv_message.specs.declared.message.Message.TheVariants.{Make, Sample, Info, View, Cancel, End}
use Rattle.hv_message.specs.declared.message.Refusal.{Refusal}
use Rattle.hv_message.specs.declared.message.Refusal.TheVariants as refusal
use Rattle.hv_message.specs.declared.message.Refusal.TheVariants.{Malformed}
use Rattle.hv_asked.specs.declared.refused.Refused.{Refused}
use Rattle.hv_asked.specs.declared.refused.Refused.TheVariants.{Word, Memory}
use Rattle.hv_asked.specs.declared.why.Why.{Why}
use Rattle.hv_asked.specs.declared.why.Why.TheVariants as why
use Rattle.hv_value.specs.Schema.{Columns, is_schema}
use Rattle.hv_message.specs.Messages.{Meaning, makes, samples, tells, views, cancels, ends, Reading, means, malformed, Known, is_open}
use Rattle.hv_view.specs.Plans.{FitsPlan}
use Rattle.hv_view.specs.declared.plan.Plan.{Plan}
use Rattle.hv_asked.specs.declared.limits.TheConstants.{MAX_OBJECTS, MAX_OPEN}
use Rattle.hv_message.specs.declared.asked.Asked.{Asked}
use Rattle.hv_message.specs.declared.asked.Asked.TheVariants as asked
use Rattle.hv_message.specs.declared.asked.TermAsked.{TermAsked}
use Rattle.hv_message.specs.declared.asked.TermAsked.TheVariants as over
use Rattle.hv_message.specs.Terms.{refusal_word}

-- an expression's factors and summands, and the number of a request that is to end, have at most 64 bits
abbrev pub HasFitFactors : TermAsked → Type 0
HasFitFactors (over.Filter p) = Unit {0}
HasFitFactors (over.Project cols) = Unit {0}
HasFitFactors (over.Derive name e) = has_fit_factors e ≡ true
HasFitFactors (over.Sample threshold seed) = Unit {0}

abbrev pub HasFitNumbers : Asked → Type 0
HasFitNumbers (asked.Load table) = Unit {0}
HasFitNumbers (asked.Over of term) = HasFitFactors term
HasFitNumbers (asked.Combine how left right) = Unit {0}
HasFitNumbers (asked.Sample of threshold seed) = Unit {0}
HasFitNumbers (asked.Info of) = Unit {0}
HasFitNumbers (asked.View of v) = Unit {0}
HasFitNumbers (asked.Cancel request) = is_fit_factor request ≡ true
HasFitNumbers asked.End = Unit {0}

abbrev pub message_meant : Message → Meaning
message_meant (Make id made) = makes id (arc_value made)
message_meant (Sample id of threshold seed) = samples id (arc_value of) threshold seed
message_meant (Info id of) = tells id (arc_value of)
message_meant (View id of plan) = views id (arc_value of) plan
message_meant (Cancel id request) = cancels id request
message_meant (End id) = ends id

-- what a sample that is taken keeps to: there is room for its object and for one node more, and its threshold is within its limit
pub record CanSample (known : Known) (of : TermOver) (threshold : ℕ) : Type 0 where
  pub room : length known.objects < MAX_OBJECTS
  pub deep : room_refusal of ≡ None
  pub fit : threshold ≤ 2 ^ 32

-- what a view that is opened keeps to: there is room for it, its id is free, and its columns are there
pub record CanOpen (known : Known) (id : ℕ) (of : TermOver) (plan : Plan) : Type 0 where
  pub room : length known.requests < MAX_OPEN
  pub free : is_open id known.requests ≡ false
  pub fits : FitsPlan plan (lineage_columns of)

-- a message that a session can serve
abbrev pub CanServe : Known → Message → Type 0
CanServe known (Make id made) = length known.objects < MAX_OBJECTS
CanServe known (Sample id of threshold seed) = CanSample known (arc_value of) threshold
CanServe known (Info id of) = Unit {0}
CanServe known (View id of plan) = CanOpen known id (arc_value of) plan
CanServe known (Cancel id request) = is_open request known.requests ≡ true
CanServe known (End id) = Unit {0}

-- the id of a message
abbrev pub id_of : Message → ℕ
id_of (Make id made) = id
id_of (Sample id of threshold seed) = id
id_of (Info id of) = id
id_of (View id of plan) = id
id_of (Cancel id request) = id
id_of (End id) = id

-- an answer to the message with an id is what was wanted, or want of memory; a message can be served
abbrev pub IsAnswer : Known → ℕ → Result Message Refused → Result Meaning Why → Type 0
IsAnswer known id (Ok message) wanted = (wanted ≡ Ok (message_meant message)) × CanServe known message × (id_of message ≡ id)
IsAnswer known id (Err (Word word)) wanted = wanted ≡ Err word
IsAnswer known id (Err Memory) wanted = Unit {0}

-- a reading is told, or want of memory, which names the message's own id or none; a message has its own id and can be served
abbrev pub IsReading : Known → Result Message Refusal → Option ℕ → Reading → Type 0
IsReading known (Ok message) own told = (told ≡ means (message_meant message)) × CanServe known message × (own ≡ Some (id_of message))
IsReading known (Err (Malformed why id)) own told = told ≡ malformed why id
IsReading known (Err (refusal.Memory id)) own told = (id ≡ None) ⊎ (id ≡ own)

-- the same of a lineage
abbrev pub IsMade : Result (Arc Lineage Global) Refused → Result TermOver Why → Type 0
IsMade (Ok made) wanted = wanted ≡ Ok (arc_value made)
IsMade (Err (Word word)) wanted = wanted ≡ Err word
IsMade (Err Memory) wanted = Unit {0}

-- a lineage that is read is told, or want of memory; no refusal has an id
abbrev pub IsRead : Result (Arc Lineage Global) Refusal → Result TermOver Why → Type 0
IsRead (Ok made) told = told ≡ Ok (arc_value made)
IsRead (Err (Malformed why id)) told = (told ≡ Err why) × (id ≡ None)
IsRead (Err (refusal.Memory id)) told = id ≡ None

-- a word, or want of memory where there is none
abbrev pub word_or_memory : Option Why → Refused
word_or_memory None = Memory
word_or_memory (Some word) = Word word

-- why a lineage was refused
abbrev pub refused_of : LineageErr → Refused
refused_of e = word_or_memory (refusal_word e)

-- a schema is made of columns exactly where they make one
abbrev pub IsSchemaOf : Result Columns Refused → Columns → Type 0
IsSchemaOf (Ok schema) columns = (schema ≡ columns) × (is_schema columns ≡ true)
IsSchemaOf (Err (Word word)) columns = (word ≡ why.Schema) × (is_schema columns ≡ false)
IsSchemaOf (Err Memory) columns = Unit {0}
