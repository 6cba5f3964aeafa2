-- What a session owes between two calls: nothing.
use Rattle.std.proofs.Common.{◌≡◌, ◌∙◌, refl, ap, List, [], ◌∷◌, ℕ, None, inl}
use Rattle.hv_reply.specs.declared.reply.Reply.{Reply}
use Rattle.hv_reply.specs.declared.reply.Reply.TheVariants.{NoMem}
use Rattle.hv_session.specs.Held.{AnswersFirst, Held}
use Rattle.hv_session.specs.Talk.{Talk, after_due, answers, Pays, Replies, refused}
use Rattle.hv_play.specs.Scripted.{IsScripted}

-- what was owed is paid
pays_all : (talk : Talk) (replies : List Reply) (next : Talk) → Pays talk replies next → next.due ≡ []
pays_all talk [] next (none, is) = ap (λ t. t.due) is ∙ none
pays_all talk (r ∷ replies) next (due, later, first, is, rest) = pays_all (after_due talk due) replies next rest

-- a session of a script that heard a text is one still
pub scripted-heard : (words : ℕ → ℕ) (before after : Held) (text : List ℕ) (replies : List Reply) → IsScripted before → after.tables ≡ before.tables
    → Replies before.tables words before.talk text replies after.talk → IsScripted after
scripted-heard words before after text replies is same said =
    record { no_tables = same ∙ is.no_tables; nothing_due = pays_all said.owing replies after.talk said.pays }

-- and one that answered
pub scripted-answered : (before after : Held) (reply : Reply) → IsScripted before → after.tables ≡ before.tables → AnswersFirst before.talk reply after.talk → IsScripted after
scripted-answered before after reply is same a =
    record { no_tables = same ∙ is.no_tables; nothing_due = ap (λ talk. talk.due) a.next_is ∙ a.nothing_due }

-- memory is refused for a text
pub replies_refused : (words : ℕ → ℕ) (talk : Talk) (text : List ℕ) → talk.due ≡ [] → Replies [] words talk text (NoMem None ∷ []) talk
replies_refused words talk text none =
    record {
      owing = record talk { due = answers (NoMem None) ∷ [] };
      hears = record { nothing_due = none; how = refused None; is_hearing = inl refl; next_is = refl };
      pays = (answers (NoMem None), [], refl, refl, (refl, ap (λ dues. record talk { due = dues }) none));
    }
