-- What contracts see of a session, and what it says at once.
use Rattle.std.specs.Prelude.{◌≡◌, ◌≤◌, ◌⊎◌, ℕ, List, [], ◌∷◌, length, map, Some}
use Rattle.std.specs.List.{AllByRecursion}
use Rattle.hv_value.specs.Catalog.{Tables}
use Rattle.hv_lineage.specs.Flat.{Told}
use Rattle.hv_lineage.specs.Lineages.{lineage_columns}
use Rattle.hv_view.specs.Plans.{FitsPlan}
use Rattle.hv_message.specs.declared.message.Message.{Message}
use Rattle.hv_message.specs.declared.message.Refusal.{Refusal}
use Rattle.hv_message.specs.declared.message.Refusal.TheVariants as refusal
use Rattle.hv_message.specs.Meant.{id_of, message_meant}
use Rattle.hv_message.specs.Messages.{Known}
use Rattle.hv_reply.specs.declared.reply.Reply.{Reply}
use Rattle.hv_reply.specs.declared.reply.Reply.TheVariants as reply
use Rattle.hv_reply.specs.declared.reply.Reply.TheVariants.{NoMem}
use Rattle.hv_session.specs.declared.answer.Answer.{Answer}
use Rattle.hv_session.specs.declared.answer.Answer.TheVariants.{Nothing, One, Two}
use Rattle.hv_session.specs.declared.request.OpenRequest.{OpenRequest}
use Rattle.hv_session.specs.Talk.{Answers, Talk, Pays, after_meaning}

-- a session: the tables of its catalog, and its talk
pub record Held : Type 0 where
  pub tables : Tables
  pub talk : Talk

-- the talk of a session that owes nothing, by what it knows, its open requests and how many seeds it has drawn
abbrev pub talk_held : Known → List OpenRequest → ℕ → Talk
talk_held k requests drawn = record { objects = k.objects; requests = requests; due = []; ended = k.ended; drawn = drawn }

-- the replies of an answer, in order
abbrev pub replies_of : Answer → List Reply
replies_of Nothing = []
replies_of (One r) = r ∷ []
replies_of (Two r later) = r ∷ later ∷ []

-- a request's plan is right for the columns of its lineage
abbrev pub IsFit : OpenRequest → Type 0
IsFit request = FitsPlan request.plan (lineage_columns request.of)

-- what a session keeps: the ids that it knows are those of its requests, whose plans fit, and each seed that it has drawn
-- made an object
pub record IsSession (known : Known) (requests : List OpenRequest) (drawn : ℕ) : Type 0 where
  pub ids : known.requests ≡ map (λ request. request.id) requests
  pub fit : AllByRecursion IsFit requests
  pub made : drawn ≤ length known.objects

-- a message is served, and what it makes due is said; or it is refused memory, and nothing comes of it
abbrev pub Serves : (ℕ → ℕ) → Talk → Message → List Reply → Talk → Type 0
Serves words talk message replies next =
    Pays (after_meaning words talk (message_meant message)) replies next ⊎ ((replies ≡ NoMem (Some (id_of message)) ∷ []) × (next ≡ talk))

-- what is said of a text that gave no message
abbrev pub refusal_reply : Refusal → Reply
refusal_reply (refusal.Malformed why id) = reply.Malformed id why
refusal_reply (refusal.Memory id) = NoMem id

-- the request that was opened first got its last word, which is right whatever is told of named tables, and is open no more
pub record AnswersFirst (talk : Talk) (r : Reply) (next : Talk) : Type 0 where
  pub request : OpenRequest
  pub later : List OpenRequest
  pub nothing_due : talk.due ≡ []
  pub first : talk.requests ≡ request ∷ later
  pub answers : (told : Told) → Answers told request r
  pub next_is : next ≡ record talk { requests = later }
