-- Each request that is opened has exactly one last word.
use Rattle.std.proofs.Common.{◌≡◌, ◌∙◌, sym, refl, ap, subst, ℕ, suc, ◌+◌, ◌≤◌, List, [], ◌∷◌, ◌++◌, length, map, drop, Bool, true, false, Option, Some, None, inl, inr, arith}
use Rattle.std.proofs.lemmas.Bool.{eqb-true, eq-eqb, lt-ltb, ltb-true, ltb-false, or_parts}
use Rattle.std.proofs.lemmas.List.Elements.{filter-append}
use Rattle.std.proofs.lemmas.List.{length-append}
use Rattle.std.specs.List.{filter, list_any, position_or_len}
use Rattle.std.specs.Prelude.{◌==◌, ◌||◌, if◌then◌else◌, cond, not, nat_lt, find}
use Rattle.hv_message.specs.Messages.{makes, samples, tells, views, cancels, ends, Reading, means, malformed, reading, is_open, without}
use Rattle.hv_reply.specs.declared.reply.Reply.{Reply}
use Rattle.hv_session.specs.declared.request.OpenRequest.{OpenRequest}
use Rattle.hv_session.specs.Talk.{Talk, new_talk, known, Hearing, served, refused, heard, after_reading, Due, answers, making, ending, after_due, closed, Hears, Says, Answers, Manner, Spoken, incoming, outgoing, Talks}
use Rattle.hv_value.specs.Catalog.{Tables}
use Rattle.hv_lineage.specs.Flat.{Told}
use Rattle.hv_play.specs.Laws.{HasEachLastWord, HasOneLastWord, ended_by, last_words, open_with, opened_by, openings, times, last_word_of}
use Rattle.hv_session.proofs.FirstLemmas.{closed-first}
use Rattle.hv_play.proofs.EndLemmas.{nothing_open}
use Rattle.hv_play.proofs.ReadingLemmas.{IsSound, reading_sound}
use Rattle.hv_play.specs.Run.{talk_of}

abbrev has_id : ℕ → OpenRequest → Bool
has_id id request = request.id == id

-- ---- requests with an id

abbrev count_of : ℕ → List OpenRequest → ℕ
count_of id requests = length (filter (has_id id) requests)

-- one more, or not
counted_here : (id : ℕ) (request : OpenRequest) (requests : List OpenRequest) → (request.id == id) ≡ true
    → count_of id (request ∷ requests) ≡ suc (count_of id requests)
counted_here id request requests e =
    ap (λ b. length (if b then request ∷ filter (has_id id) requests else filter (has_id id) requests)) e

counted_not : (id : ℕ) (request : OpenRequest) (requests : List OpenRequest) → (request.id == id) ≡ false
    → count_of id (request ∷ requests) ≡ count_of id requests
counted_not id request requests e =
    ap (λ b. length (if b then request ∷ filter (has_id id) requests else filter (has_id id) requests)) e

once : (id other : ℕ) → (other == id) ≡ true → times id (Some other) ≡ 1
once id other e = ap (λ b. if b then 1 else 0) e

never : (id other : ℕ) → (other == id) ≡ false → times id (Some other) ≡ 0
never id other e = ap (λ b. if b then 1 else 0) e

counted_first : (id : ℕ) (request : OpenRequest) (requests : List OpenRequest) → count_of id (request ∷ requests) ≡ times id (Some request.id) + count_of id requests
counted_first id request requests = by_id (request.id == id) refl
  where
    by_id : (b : Bool) → (request.id == id) ≡ b → count_of id (request ∷ requests) ≡ times id (Some request.id) + count_of id requests
    by_id true e = omega (arith, counted_here id request requests e, once id request.id e)
    by_id false e = omega (arith, counted_not id request requests e, never id request.id e)

or_right : (b : Bool) → (b || true) ≡ true
or_right true = refl
or_right false = refl

or_left_none : (b c : Bool) → b ≡ false → (b || c) ≡ c
or_left_none b c e = ap (λ x. x || c) e

not_true : (b : Bool) → (b ≡ true → ⊥) → b ≡ false
not_true true none = absurd (none refl)
not_true false none = refl

-- the ids of open requests are those of the requests
any_of_ids : (id : ℕ) (requests : List OpenRequest) → is_open id (map (λ (request : OpenRequest). request.id) requests) ≡ list_any (has_id id) requests
any_of_ids id [] = refl
any_of_ids id (request ∷ requests) = ap (λ b. (request.id == id) || b) (any_of_ids id requests)

none_with : (id : ℕ) (requests : List OpenRequest) → list_any (has_id id) requests ≡ false → count_of id requests ≡ 0
none_with id [] none = refl
none_with id (request ∷ requests) none =
    let parts = or_parts (request.id == id) (list_any (has_id id) requests) none in
    counted_not id request requests parts.0 ∙ none_with id requests parts.1

-- the place of the first with an id among more
skip_place : (b : Bool) (n : ℕ) (request : OpenRequest) (requests : List OpenRequest)
    → without (cond b (Some (suc n)) None) (request ∷ requests) ≡ request ∷ without (cond b (Some n) None) requests
skip_place true n request requests = refl
skip_place false n request requests = refl

less_later : (m n : ℕ) → nat_lt (suc m) (suc n) ≡ nat_lt m n
less_later m n = by_test (nat_lt m n) refl
  where
    by_test : (b : Bool) → nat_lt m n ≡ b → nat_lt (suc m) (suc n) ≡ b
    by_test true e = lt-ltb (suc m) (suc n) (omega (arith, ltb-true m n e))
    by_test false e = not_true (nat_lt (suc m) (suc n)) (λ is. omega (arith, ltb-true (suc m) (suc n) is, ltb-false m n e))

closed_later : (id : ℕ) (request : OpenRequest) (requests : List OpenRequest) → (request.id == id) ≡ false → closed id (request ∷ requests) ≡ request ∷ closed id requests
closed_later id request requests other =
    let n = position_or_len (has_id id) requests in
    let next : 1 + n ≡ suc n = omega arith in
    ap (λ b. without (cond (nat_lt (cond (not b) (1 + n) 0) (suc (length requests))) (Some (cond (not b) (1 + n) 0)) None) (request ∷ requests)) other
    ∙ ap (λ place. without (cond (nat_lt place (suc (length requests))) (Some place) None) (request ∷ requests)) next
    ∙ ap (λ b. without (cond b (Some (suc n)) None) (request ∷ requests)) (less_later n (length requests))
    ∙ skip_place (nat_lt n (length requests)) n request requests

closed_here : (id : ℕ) (request : OpenRequest) (requests : List OpenRequest) → (request.id == id) ≡ true → closed id (request ∷ requests) ≡ requests
closed_here id request requests same =
    subst (λ i. closed i (request ∷ requests) ≡ requests) (eqb-true request.id id same) (closed-first request requests)

-- without the first request with an id there is one less with it
count_closed : (id i : ℕ) (requests : List OpenRequest) → list_any (has_id id) requests ≡ true
    → count_of i requests ≡ times i (Some id) + count_of i (closed id requests)
count_closed id i [] there = absurd (cc there)
count_closed id i (request ∷ requests) there =
    by_id (request.id == id) refl (λ later. count_closed id i requests later)
  where
    by_id : (b : Bool) → (request.id == id) ≡ b → (list_any (has_id id) requests ≡ true → count_of i requests ≡ times i (Some id) + count_of i (closed id requests))
        → count_of i (request ∷ requests) ≡ times i (Some id) + count_of i (closed id (request ∷ requests))
    by_id true e then_later =
        counted_first i request requests
        ∙ ap (λ own. times i (Some own) + count_of i requests) (eqb-true request.id id e)
        ∙ ap (λ rs. times i (Some id) + count_of i rs) (sym (closed_here id request requests e))
    by_id false e then_later =
        let later = then_later (sym (or_left_none (request.id == id) (list_any (has_id id) requests) e) ∙ there) in
        let first = counted_first i request requests in
        let first_left = counted_first i request (closed id requests) in
        let left : count_of i (request ∷ closed id requests) ≡ count_of i (closed id (request ∷ requests)) = ap (count_of i) (sym (closed_later id request requests e)) in
        omega (arith, later, first, first_left, left)

-- a request that is found is there
found_there : (id : ℕ) (request : OpenRequest) (requests : List OpenRequest) → find (has_id id) requests ≡ Some request → list_any (has_id request.id) requests ≡ true
found_there id request [] found = absurd (cc found)
found_there id request (first ∷ requests) found = by_id (first.id == id) refl (λ is. found_there id request requests is)
  where
    by_id : (b : Bool) → (first.id == id) ≡ b → (find (has_id id) requests ≡ Some request → list_any (has_id request.id) requests ≡ true)
        → list_any (has_id request.id) (first ∷ requests) ≡ true
    by_id true e later =
        let is : Some first ≡ Some request = ap (λ b. if b then Some first else find (has_id id) requests) (sym e) ∙ found in
        let same : first ≡ request = cc is in
        ap (λ b. b || list_any (has_id request.id) requests) (eq-eqb first.id request.id (ap (λ (r : OpenRequest). r.id) same))
    by_id false e later =
        let is : find (has_id id) requests ≡ Some request = ap (λ b. if b then Some first else find (has_id id) requests) (sym e) ∙ found in
        ap (λ b. (first.id == request.id) || b) (later is) ∙ or_right (first.id == request.id)

-- ---- what is kept

abbrev EndsNone : List Due → Type 0
EndsNone [] = Unit {0}
EndsNone (answers r ∷ later) = EndsNone later
EndsNone (making id lineage seed ∷ later) = EndsNone later
EndsNone (ending id ∷ later) = ⊥

-- a request whose end is owed is open, and it is the only one
abbrev IsOwed : List Due → List OpenRequest → Type 0
IsOwed [] requests = Unit {0}
IsOwed (answers r ∷ later) requests = EndsNone later
IsOwed (making id lineage seed ∷ later) requests = EndsNone later
IsOwed (ending id ∷ later) requests = (list_any (has_id id) requests ≡ true) × EndsNone later

none_owed : (dues : List Due) (requests : List OpenRequest) → EndsNone dues → IsOwed dues requests
none_owed [] requests none = tt
none_owed (answers r ∷ later) requests none = none
none_owed (making id lineage seed ∷ later) requests none = none
none_owed (ending id ∷ later) requests none = absurd none

record IsKept (talk : Talk) : Type 0 where
  owed : IsOwed talk.due talk.requests
  single : (i : ℕ) → open_with i talk ≤ 1

-- a word opens or ends a request
record Goes (opened ended : Option ℕ) (talk next : Talk) : Type 0 where
  kept : IsKept next
  count : (i : ℕ) → times i opened + open_with i talk ≡ times i ended + open_with i next

-- the open requests stay
goes_on : (talk next : Talk) → next.requests ≡ talk.requests → IsOwed next.due next.requests → IsKept talk → Goes None None talk next
goes_on talk next same owed kept =
    record {
      kept = record { owed = owed; single = λ i. subst (λ rs. count_of i rs ≤ 1) (sym same) (kept.single i) };
      count = λ i. ap (λ n. 0 + n) (ap (count_of i) (sym same));
    }

-- one more is opened
one_more : (talk : Talk) (opened : OpenRequest) → list_any (has_id opened.id) talk.requests ≡ false → talk.due ≡ [] → IsKept talk
    → Goes (Some opened.id) None talk (record talk { requests = talk.requests ++ opened ∷ [] })
one_more talk opened free none kept =
    record {
      kept = record {
        owed = subst (λ dues. IsOwed dues (talk.requests ++ opened ∷ [])) (sym none) tt;
        single = λ i. single i (opened.id == i) refl;
      };
      count = λ i. let all = counted i in omega (arith, all);
    }
  where
    counted : (i : ℕ) → count_of i (talk.requests ++ opened ∷ []) ≡ times i (Some opened.id) + count_of i talk.requests
    counted i =
        let parts : count_of i (talk.requests ++ opened ∷ []) ≡ length (filter (has_id i) talk.requests ++ filter (has_id i) (opened ∷ [])) =
        ap length (filter-append (has_id i) talk.requests (opened ∷ [])) in
        let both = length-append (filter (has_id i) talk.requests) (filter (has_id i) (opened ∷ [])) in
        let last = counted_first i opened [] in
        omega (arith, parts, both, last)

    single : (i : ℕ) (b : Bool) → (opened.id == i) ≡ b → count_of i (talk.requests ++ opened ∷ []) ≤ 1
    single i true e =
        let none_yet : count_of i talk.requests ≡ 0 = subst (λ id. count_of id talk.requests ≡ 0) (eqb-true opened.id i e) (none_with opened.id talk.requests free) in
        let one = once i opened.id e in
        let all = counted i in
        omega (arith, none_yet, one, all)
    single i false e =
        let none_more = never i opened.id e in
        let before = kept.single i in
        let all = counted i in
        omega (arith, before, none_more, all)

-- one less
one_less : (talk next : Talk) (id : ℕ) → list_any (has_id id) talk.requests ≡ true → next.requests ≡ closed id talk.requests → IsOwed next.due next.requests
    → IsKept talk → Goes None (Some id) talk next
one_less talk next id there same owed kept =
    record {
      kept = record {
        owed = owed;
        single = λ i. let all = count_closed id i talk.requests there in
            let left : count_of i next.requests ≡ count_of i (closed id talk.requests) = ap (count_of i) same in
            let before = kept.single i in
            omega (arith, all, left, before);
      };
      count = λ i. let all = count_closed id i talk.requests there in
          let left : count_of i next.requests ≡ count_of i (closed id talk.requests) = ap (count_of i) same in
          omega (arith, all, left);
    }

-- ---- a text is heard

after_goes : (tables : Tables) (words : ℕ → ℕ) (talk : Talk) (read : Reading) → IsSound (known tables talk) read → talk.due ≡ [] → IsKept talk
    → Goes (opened_by read served) None talk (after_reading words talk read)
after_goes tables words talk (malformed why id) sound none kept = goes_on talk _ refl tt kept
after_goes tables words talk (means (makes id lineage)) sound none kept = goes_on talk _ refl tt kept
after_goes tables words talk (means (samples id of threshold (Some seed))) sound none kept = goes_on talk _ refl tt kept
after_goes tables words talk (means (samples id of threshold None)) sound none kept = goes_on talk _ refl tt kept
after_goes tables words talk (means (tells id lineage)) sound none kept = goes_on talk _ refl tt kept
after_goes tables words talk (means (views id lineage plan)) sound none kept =
    one_more talk (record { id = id; of = lineage; plan = plan }) (sym (any_of_ids id talk.requests) ∙ sound) none kept
after_goes tables words talk (means (cancels id request)) sound none kept = goes_on talk _ refl (sym (any_of_ids request talk.requests) ∙ sound, tt) kept
after_goes tables words talk (means (ends id)) sound none kept = goes_on talk _ refl (subst (λ dues. IsOwed dues talk.requests) (sym none) tt) kept

heard_goes : (tables : Tables) (words : ℕ → ℕ) (talk : Talk) (text : List ℕ) (how : Hearing) → talk.due ≡ [] → IsKept talk
    → Goes (opened_by (reading (known tables talk) text) how) None talk (heard tables words talk text how)
heard_goes tables words talk text served none kept =
    after_goes tables words talk (reading (known tables talk) text) (reading_sound (known tables talk) text) none kept
heard_goes tables words talk text (refused id) none kept = goes_on talk _ refl tt kept

hears_goes : (tables : Tables) (words : ℕ → ℕ) (talk next : Talk) (text : List ℕ) (h : Hears tables words talk text next) → IsKept talk
    → Goes (opened_by (reading (known tables talk) text) h.how) None talk next
hears_goes tables words talk next text h kept =
    subst (Goes (opened_by (reading (known tables talk) text) h.how) None talk) (sym h.next_is) (heard_goes tables words talk text h.how h.nothing_due kept)

-- ---- a reply is said

answered_by : (told : Told) (request : OpenRequest) (r : Reply) → Answers told request r → last_word_of r ≡ Some request.id
answered_by told request r (inl final) = ap last_word_of final.is
answered_by told request r (inr short) = ap last_word_of short

due_goes : (talk : Talk) (due : Due) (later : List Due) (r : Reply) → talk.due ≡ due ∷ later → IsOwed (due ∷ later) talk.requests → IsKept talk
    → Goes None (ended_by (due ∷ later) r) talk (after_due talk due)
due_goes talk (answers other) later r e owed kept =
    goes_on talk _ refl (subst (λ dues. IsOwed (drop 1 dues) talk.requests) (sym e) (none_owed later talk.requests owed)) kept
due_goes talk (making id lineage seed) later r e owed kept =
    goes_on talk _ refl (subst (λ dues. IsOwed (drop 1 dues) talk.requests) (sym e) (none_owed later talk.requests owed)) kept
due_goes talk (ending id) later r e owed kept =
    one_less talk _ id owed.0 refl (subst (λ dues. IsOwed (drop 1 dues) (closed id talk.requests)) (sym e) (none_owed later (closed id talk.requests) owed.1)) kept

says_goes : (m : Manner) (dues : List Due) (talk next : Talk) (r : Reply) → talk.due ≡ dues → Says m dues talk r next → IsKept talk
    → Goes None (ended_by dues r) talk next
says_goes m [] talk next r none (id, request, found, closes) kept =
    subst (λ ended. Goes None ended talk next) (sym (answered_by m.told request r closes.answered))
    (subst (Goes None (Some request.id) talk) (sym closes.next_is)
    (one_less talk _ request.id (found_there id request talk.requests found) refl (subst (λ dues. IsOwed dues (closed request.id talk.requests)) (sym none) tt) kept))
says_goes m (due ∷ later) talk next r e (is, next_is) kept =
    subst (Goes None (ended_by (due ∷ later) r) talk) (sym next_is) (due_goes talk due later r e (subst (λ dues. IsOwed dues talk.requests) e kept.owed) kept)

-- ---- a talk

record Balances (m : Manner) (i : ℕ) (talk : Talk) (words : List Spoken) (last : Talk) (talks : Talks m talk words last) : Type 0 where
  kept : IsKept last
  count : openings m i talk words last talks + open_with i talk ≡ last_words m i talk words last talks + open_with i last

balances : (m : Manner) (i : ℕ) (talk : Talk) (words : List Spoken) (last : Talk) (talks : Talks m talk words last) → IsKept talk
    → Balances m i talk words last talks
balances m i talk [] last same kept =
    record { kept = subst IsKept (sym same) kept; count = ap (λ (t : Talk). 0 + open_with i t) (sym same) }
balances m i talk (incoming text ∷ words) last (next, hear, later) kept =
    let one = hears_goes m.tables m.words talk next text hear kept in
    let more = balances m i next words last later one.kept in
    let first = one.count i in
    let rest = more.count in
    record { kept = more.kept; count = omega (arith, first, rest) }
balances m i talk (outgoing r ∷ words) last (next, said, later) kept =
    let one = says_goes m talk.due talk next r refl said kept in
    let more = balances m i next words last later one.kept in
    let first = one.count i in
    let rest = more.count in
    record { kept = more.kept; count = omega (arith, first, rest) }

new_kept : IsKept new_talk
new_kept = record { owed = tt; single = λ i. omega arith }

pub one_last_word : HasOneLastWord
one_last_word m id words last talks =
    let all = balances m id new_talk words last talks new_kept in
    let counted = all.count in
    (omega (arith, counted), all.kept.single id)

pub each_last_word : HasEachLastWord
each_last_word g script_bytes output s id right words talks =
    let all = balances (g.manner s) id new_talk words (talk_of right.last s) talks new_kept in
    let counted = all.count in
    let none : open_with id (talk_of right.last s) ≡ 0 = ap (count_of id) (nothing_open g script_bytes output s right) in
    omega (arith, counted, none)
