-- What a session owes after a text, and that it was paid.
use Rattle.std.proofs.Common.{◌≡◌, ◌∙◌, sym, refl, ap, subst, ℕ, ◌<◌, ◌≤◌, List, [], ◌∷◌, length, true, Option, Some, None, Err, inl, inr, arith}
use Rattle.std.proofs.lemmas.Bool.{le-leb, lt-leb}
use Rattle.std.specs.Prelude.{◌⊎◌, option_and_then}
use Rattle.serde_json.specs.Data.{Data}
use Rattle.serde_json.specs.Read.{read}
use Rattle.hv_value.specs.Catalog.{Tables}
use Rattle.hv_asked.specs.declared.limits.TheConstants.{MAX_MESSAGE_BYTES}
use Rattle.hv_message.specs.declared.message.Message.{Message}
use Rattle.hv_asked.specs.declared.why.Why.{Why}
use Rattle.hv_asked.specs.declared.why.Why.TheVariants as why
use Rattle.hv_message.specs.Meant.{IsReading, id_of, message_meant}
use Rattle.hv_message.specs.declared.message.Refusal.{Refusal}
use Rattle.hv_message.specs.declared.message.Refusal.TheVariants as refusal
use Rattle.hv_message.specs.Messages.{Known, cancels, ends, means, malformed, reading, reading_of_object, as_object_value, id_in, id_of_text}
use Rattle.hv_reply.specs.declared.reply.Reply.{Reply}
use Rattle.hv_reply.specs.declared.reply.Reply.TheVariants as reply
use Rattle.hv_session.specs.Held.{Serves, refusal_reply}
use Rattle.hv_session.specs.Talk.{Talk, answers, ending, Pays, Replies, served, refused, after_meaning, after_reading, closed, known}

-- a session that owes nothing, as it is
none_due : (talk : Talk) → talk.due ≡ [] → talk ≡ record talk { due = [] }
none_due talk e = ap (λ dues. record talk { due = dues }) e

pub pays_one : (talk : Talk) (r : Reply) → talk.due ≡ [] → Pays (record talk { due = answers r ∷ [] }) (r ∷ []) talk
pays_one talk r e = (answers r, [], refl, refl, (refl, none_due talk e))

pub pays_end : (words : ℕ → ℕ) (talk : Talk) (id : ℕ) → talk.due ≡ [] → Pays (after_meaning words talk (ends id)) [] (record talk { ended = true })
pays_end words talk id e = (e, refl)

pub pays_cancel : (words : ℕ → ℕ) (talk : Talk) (id request : ℕ) → talk.due ≡ []
    → Pays (after_meaning words talk (cancels id request)) (reply.Cancelled request ∷ reply.Done id ∷ []) (record talk { requests = closed request talk.requests })
pays_cancel words talk id request e = (
  ending request,
  answers (reply.Done id) ∷ [],
  refl,
  refl,
  (answers (reply.Done id), [], refl, refl, (refl, ap (λ dues. record talk { requests = closed request talk.requests; due = dues }) e)),
)

-- ---- a text is heard

pub replies_refused : (tables : Tables) (words : ℕ → ℕ) (talk : Talk) (text : List ℕ) (id : Option ℕ) → talk.due ≡ [] → (id ≡ None) ⊎ (id ≡ id_of_text text)
    → Replies tables words talk text (reply.NoMem id ∷ []) talk
replies_refused tables words talk text id e whose = record {
  owing = record talk { due = answers (reply.NoMem id) ∷ [] };
  hears = record { nothing_due = e; how = refused id; is_hearing = whose; next_is = refl };
  pays = pays_one talk (reply.NoMem id) e;
}

pub replies_malformed : (tables : Tables) (words : ℕ → ℕ) (talk : Talk) (text : List ℕ) (w : Why) (id : Option ℕ) → talk.due ≡ [] → reading (known tables talk) text ≡ malformed w id
    → Replies tables words talk text (reply.Malformed id w ∷ []) talk
replies_malformed tables words talk text w id quiet is = record {
  owing = record talk { due = answers (reply.Malformed id w) ∷ [] };
  hears = record { nothing_due = quiet; how = served; is_hearing = tt; next_is = sym (ap (after_reading words talk) is) };
  pays = pays_one talk (reply.Malformed id w) quiet;
}

pub replies_served : (tables : Tables) (words : ℕ → ℕ) (talk next : Talk) (text : List ℕ) (message : Message) (replies : List Reply) → talk.due ≡ []
    → reading (known tables talk) text ≡ means (message_meant message) → id_of_text text ≡ Some (id_of message)
    → Serves words talk message replies next → Replies tables words talk text replies next
replies_served tables words talk next text message replies quiet is own (inl pays) = record {
  owing = after_meaning words talk (message_meant message);
  hears = record { nothing_due = quiet; how = served; is_hearing = tt; next_is = sym (ap (after_reading words talk) is) };
  pays = pays;
}
replies_served tables words talk next text message replies quiet is own (inr h) =
    subst (λ rs. Replies tables words talk text rs next) (sym h.0)
    (subst (λ t. Replies tables words talk text (reply.NoMem (Some (id_of message)) ∷ []) t) (sym h.1)
    (replies_refused tables words talk text (Some (id_of message)) quiet (inr (sym own))))

-- a text that gave no message
pub replies_refusal : (tables : Tables) (words : ℕ → ℕ) (talk : Talk) (text : List ℕ) (k : Known) (refusal : Refusal) → talk.due ≡ [] → known tables talk ≡ k
    → IsReading k (Err refusal) (id_of_text text) (reading k text) → Replies tables words talk text (refusal_reply refusal ∷ []) talk
replies_refusal tables words talk text k (refusal.Malformed why id) quiet same is = replies_malformed tables words talk text why id quiet (ap (λ x. reading x text) same ∙ is)
replies_refusal tables words talk text k (refusal.Memory id) quiet same is = replies_refused tables words talk text id quiet is

-- ---- what a text is

-- a text over the limit
pub reading-long : (k : Known) (text : List ℕ) → MAX_MESSAGE_BYTES < length text → reading k text ≡ malformed why.Size None
unfolding reading
reading-long k text long = rw (lt-leb (length text) MAX_MESSAGE_BYTES long) refl

-- another one means what its value does
pub reading-value : (k : Known) (text : List ℕ) (value : Data) → length text ≤ MAX_MESSAGE_BYTES → read text ≡ Some value
    → reading k text ≡ reading_of_object k (as_object_value value)
unfolding reading
reading-value k text value short is = rw (le-leb (length text) MAX_MESSAGE_BYTES short) (ap (λ v. reading_of_object k (option_and_then as_object_value v)) is)

pub id-value : (text : List ℕ) (value : Data) → read text ≡ Some value → id_of_text text ≡ option_and_then id_in (as_object_value value)
id-value text value is = ap (λ v. option_and_then id_in (option_and_then as_object_value v)) is
