-- Which talk of one session is right: what each text that it hears makes due, and what may be said.
use Rattle.std.specs.Prelude.{◌≡◌, ◌⊎◌, ⊤, ℕ, ◌+◌, ◌==◌, List, [], ◌∷◌, ◌++◌, length, map, drop, find, position, Bool, true, false, Option, Some, None}
use Rattle.hv_value.specs.Catalog.{Tables}
use Rattle.hv_value.specs.Rows.{Row}
use Rattle.hv_member.specs.Sets.{numbers}
use Rattle.hv_lineage.specs.Flat.{Told, AreFlat}
use Rattle.hv_lineage.specs.Combining.{sampled}
use Rattle.hv_lineage.specs.Lineages.{TermOver, lineage_parts}
use Rattle.hv_view.specs.Plans.{OfPlan}
use Rattle.hv_view.specs.declared.shown.Shown.{Shown}
use Rattle.hv_message.specs.Messages.{Known, Meaning, makes, samples, tells, views, cancels, ends, Reading, means, malformed, reading, id_of_text, without}
use Rattle.hv_reply.specs.declared.reply.Reply.{Reply}
use Rattle.hv_reply.specs.declared.reply.Reply.TheVariants as reply
use Rattle.hv_session.specs.declared.request.OpenRequest.{OpenRequest}

-- an answer that is owed: a reply, the making of an object that the message with an id asked for, with the seed that the
-- answer shows, or the end of the request with an id
pub data Due : Type 0 where
  answers : Reply → Due
  making : ℕ → TermOver → Option ℕ → Due
  ending : ℕ → Due

-- a session: its objects by number, its open requests in the order in which they were opened, what is owed, whether it
-- heard `end`, and how many seeds it has drawn
pub record Talk : Type 0 where
  pub objects : List TermOver
  pub requests : List OpenRequest
  pub due : List Due
  pub ended : Bool
  pub drawn : ℕ

-- a session that has heard nothing
abbrev pub new_talk : Talk
new_talk = record { objects = []; requests = []; due = []; ended = false; drawn = 0 }

-- ---- what is heard

-- what a session knows beside the tables of the catalog
abbrev pub known : Tables → Talk → Known
known tables talk = record { tables = tables; objects = talk.objects; requests = map (λ request. request.id) talk.requests; ended = talk.ended }

-- how a text was heard: served, or refused memory, with the id that the refusal names
pub data Hearing : Type 0 where
  served : Hearing
  refused : Option ℕ → Hearing

-- a refusal names the text's own id or none
abbrev pub IsHearing : List ℕ → Hearing → Type 0
IsHearing text served = ⊤
IsHearing text (refused id) = (id ≡ None) ⊎ (id ≡ id_of_text text)

-- the session after a message that asks for a sample: where it gives no seed the next of the session's words is drawn. So
-- a word is used up only by a sample that is made
abbrev pub after_sample : (ℕ → ℕ) → Talk → ℕ → TermOver → ℕ → Option ℕ → Talk
after_sample words talk id of threshold (Some seed) = record talk { due = making id (sampled of seed threshold) (Some seed) ∷ [] }
after_sample words talk id of threshold None =
    record talk { due = making id (sampled of (words talk.drawn) threshold) (Some (words talk.drawn)) ∷ []; drawn = talk.drawn + 1 }

-- the session after a message, its words from which seeds are drawn given by place
abbrev pub after_meaning : (ℕ → ℕ) → Talk → Meaning → Talk
after_meaning words talk (makes id lineage) = record talk { due = making id lineage None ∷ [] }
after_meaning words talk (samples id of threshold seed) = after_sample words talk id of threshold seed
after_meaning words talk (tells id lineage) = record talk { due = answers (reply.Info id lineage) ∷ [] }
after_meaning words talk (views id lineage plan) = record talk { requests = talk.requests ++ record { id = id; of = lineage; plan = plan } ∷ [] }
after_meaning words talk (cancels id request) = record talk { due = ending request ∷ answers (reply.Done id) ∷ [] }
after_meaning words talk (ends id) = record talk { ended = true }

-- the session after a text that is a message, or after one that is none
abbrev pub after_reading : (ℕ → ℕ) → Talk → Reading → Talk
after_reading words talk (means meaning) = after_meaning words talk meaning
after_reading words talk (malformed why id) = record talk { due = answers (reply.Malformed id why) ∷ [] }

-- the session after a text
abbrev pub heard : Tables → (ℕ → ℕ) → Talk → List ℕ → Hearing → Talk
heard tables words talk text served = after_reading words talk (reading (known tables talk) text)
heard tables words talk text (refused id) = record talk { due = answers (reply.NoMem id) ∷ [] }

-- a session hears a text: nothing is owed before
pub record Hears (tables : Tables) (words : ℕ → ℕ) (talk : Talk) (text : List ℕ) (next : Talk) : Type 0 where
  pub nothing_due : talk.due ≡ []
  pub how : Hearing
  pub is_hearing : IsHearing text how
  pub next_is : next ≡ heard tables words talk text how

-- ---- what is said

-- the reply that pays what is owed
abbrev pub due_reply : Talk → Due → Reply
due_reply talk (answers r) = r
due_reply talk (making id lineage seed) = reply.Made id (length talk.objects) seed
due_reply talk (ending request) = reply.Cancelled request

-- the requests without the first one with an id
abbrev pub closed : ℕ → List OpenRequest → List OpenRequest
closed id requests = without (position (λ (request : OpenRequest). request.id == id) requests) requests

abbrev pub with_made : List TermOver → Due → List TermOver
with_made objects (answers r) = objects
with_made objects (making id lineage seed) = objects ++ lineage ∷ []
with_made objects (ending request) = objects

abbrev pub with_ended : List OpenRequest → Due → List OpenRequest
with_ended requests (answers r) = requests
with_ended requests (making id lineage seed) = requests
with_ended requests (ending request) = closed request requests

-- the session after the first answer that is owed was said
abbrev pub after_due : Talk → Due → Talk
after_due talk due = record talk { objects = with_made talk.objects due; requests = with_ended talk.requests due; due = drop 1 talk.due }

-- what is owed is said in order until nothing is
abbrev pub Pays : Talk → List Reply → Talk → Type 0
Pays talk [] next = (talk.due ≡ []) × (next ≡ talk)
Pays talk (r ∷ replies) next = (due : Due) × (later : List Due) × (talk.due ≡ due ∷ later) × (r ≡ due_reply talk due) × Pays (after_due talk due) replies next

-- a session hears a text and says what that makes due
pub record Replies (tables : Tables) (words : ℕ → ℕ) (talk : Talk) (text : List ℕ) (replies : List Reply) (next : Talk) : Type 0 where
  pub owing : Talk
  pub hears : Hears tables words talk text owing
  pub pays : Pays owing replies next

-- ---- open requests

-- a reply is a request's last word: the value of its plan over the whole table that its lineage names. Where contents
-- that it needs aren't told, it is that of some rows of the table's partitions
pub record IsFinal (told : Told) (request : OpenRequest) (r : Reply) : Type 0 where
  pub rows : List Row
  pub whole : AreFlat told request.of (numbers (lineage_parts request.of)) rows
  pub value : Shown
  pub is_value : OfPlan request.plan rows rows value
  pub is : r ≡ reply.Final request.id (record { size = lineage_parts request.of; parts = numbers (lineage_parts request.of) }) value

-- a request is answered: by its last word, or since memory was refused
abbrev pub Answers : Told → OpenRequest → Reply → Type 0
Answers told request r = IsFinal told request r ⊎ (r ≡ reply.NoMem (Some request.id))

-- the open request with an id
abbrev pub request_with : ℕ → Talk → Option OpenRequest
request_with id talk = find (λ (request : OpenRequest). request.id == id) talk.requests

-- an open request gets its last word, while nothing is owed
pub record Closes (told : Told) (talk : Talk) (request : OpenRequest) (r : Reply) (next : Talk) : Type 0 where
  pub nothing_due : talk.due ≡ []
  pub answered : Answers told request r
  pub next_is : next ≡ record talk { requests = closed request.id talk.requests }

-- ---- a whole talk

-- what doesn't change during a talk: the tables of the catalog, what is told of their contents, and the words from which
-- the session draws its seeds, by place
pub record Manner : Type 0 where
  pub tables : Tables
  pub told : Told
  pub words : ℕ → ℕ

-- what is said in a talk: a text comes to the session, or a reply goes out
pub data Spoken : Type 0 where
  incoming : List ℕ → Spoken
  outgoing : Reply → Spoken

-- a reply with these answers owed: it is the first of them; where none is owed, it is the last word of an open request
abbrev pub Says : Manner → List Due → Talk → Reply → Talk → Type 0
Says m [] talk r next = (id : ℕ) × (request : OpenRequest) × (request_with id talk ≡ Some request) × Closes m.told talk request r next
Says m (due ∷ later) talk r next = (r ≡ due_reply talk due) × (next ≡ after_due talk due)

abbrev pub Speaks : Manner → Talk → Spoken → Talk → Type 0
Speaks m talk (incoming text) next = Hears m.tables m.words talk text next
Speaks m talk (outgoing r) next = Says m talk.due talk r next

-- the talk goes on through all that is said, in order
abbrev pub Talks : Manner → Talk → List Spoken → Talk → Type 0
Talks m talk [] last = last ≡ talk
Talks m talk (first ∷ spoken) last = (next : Talk) × Speaks m talk first next × Talks m next spoken last
