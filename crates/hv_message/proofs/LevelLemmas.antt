-- A value's readings at two levels are the same where both levels are more than it nests.
use Rattle.std.proofs.Common.{◌≡◌, ℕ, zero, suc, ◌≤◌, max, refl, arith, List, Option, Some, None, Result, ap, subst, ◌∙◌}
use Rattle.std.specs.Prelude.{◌∷◌, codes, option_and_then, option_map}
use Rattle.std.specs.Cmp.Lexicographic.{slice_cmp}
use Rattle.std.specs.Ordering.{nat_cmp, match_ordering}
use Rattle.std.specs.declared.cmp.Ordering.{Ordering}
use Rattle.std.specs.declared.cmp.Ordering.TheVariants.{Less, Equal, Greater}
use Rattle.serde_json.specs.Data.{Data, null, boolean, number, string, array, object, Items, no_items, item, Members, no_members, member, depth, items_depth, members_depth}
use Rattle.serde_json.specs.Read.{max_depth}
use Rattle.serde_json.specs.Find.{as_array, get, get_member}
use Rattle.hv_expr.specs.declared.expr.Expr.{Expr}
use Rattle.hv_expr.specs.declared.expr.Expr.TheVariants as expr
use Rattle.hv_lineage.specs.Lineages.{TermOver}
use Rattle.hv_asked.specs.declared.pred_asked.PredAsked.{PredAsked}
use Rattle.hv_asked.specs.declared.why.Why.{Why}
use Rattle.hv_asked.specs.Fields.{all_read, integer_at, shaped, text_at}
use Rattle.hv_asked.specs.Flaws.{of_field}
use Rattle.hv_message.specs.LineageTexts.{term_in, term_with}
use Rattle.hv_asked.specs.Trees.{expr_in, expr_with, join_in, levels, linear_in, parts_in, pred_in, pred_with, under}

-- ---- what is in a value nests less than the value

member_depth : (key : List ℕ) (ms : Members) (d : Data) → get_member key ms ≡ Some d → depth d ≤ members_depth ms
member_depth key no_members d e = absurd (cc e)
member_depth key (member name x ms) d e = by (slice_cmp nat_cmp key name) e (member_depth key ms d)
  where
    by : (o : Ordering) → match_ordering o (get_member key ms) (Some x) (get_member key ms) ≡ Some d
        → (get_member key ms ≡ Some d → depth d ≤ members_depth ms) → depth d ≤ max (depth x) (members_depth ms)
    by Less f more = omega (arith, more f)
    by Equal f more = let same : x ≡ d = cc f in subst (λ y. depth y ≤ max (depth x) (members_depth ms)) same (omega arith)
    by Greater f more = omega (arith, more f)

field_depth : (key : List ℕ) (value d : Data) → get key value ≡ Some d → suc (depth d) ≤ depth value
field_depth key null d e = absurd (cc e)
field_depth key (boolean b) d e = absurd (cc e)
field_depth key (number n) d e = absurd (cc e)
field_depth key (string s) d e = absurd (cc e)
field_depth key (array ds) d e = absurd (cc e)
field_depth key (object ms) d e = omega (arith, member_depth key ms d e)

-- ---- two readings that agree on what is in a value

-- both read the same of each value that nests less than so deep
abbrev Agree : {A : Type 0} → (Data → A) → (Data → A) → ℕ → Type 0
Agree f g top = (d : Data) → suc (depth d) ≤ top → f d ≡ g d

shaped-same : {A B : Type 0} (o : Option A) (f g : A → Option B) → ((x : A) → f x ≡ g x) → shaped o f ≡ shaped o g
shaped-same None f g same = refl
shaped-same (Some x) f g same = same x

field-same : {A B : Type 0} (o : Option A) (f g : A → Result B Why) → ((x : A) → f x ≡ g x) → of_field o f ≡ of_field o g
field-same None f g same = refl
field-same (Some x) f g same = same x

under-same : {A : Type 0} (f g : Data → Option A) (key : List ℕ) (value : Data) → Agree f g (depth value) → under f key value ≡ under g key value
under-same f g key value agree = by (get key value) refl
  where
    by : (o : Option Data) → get key value ≡ o → shaped o f ≡ shaped o g
    by None e = refl
    by (Some d) e = agree d (field_depth key value d e)

inner-same : (f g : Data → Result TermOver Why) (key : List ℕ) (value : Data) → Agree f g (depth value)
    → of_field (get key value) f ≡ of_field (get key value) g
inner-same f g key value agree = by (get key value) refl
  where
    by : (o : Option Data) → get key value ≡ o → of_field o f ≡ of_field o g
    by None e = refl
    by (Some d) e = agree d (field_depth key value d e)

all-same : {A : Type 0} (f g : Data → Option A) (ds : Items) → ((d : Data) → depth d ≤ items_depth ds → f d ≡ g d) → all_read f ds ≡ all_read g ds
all-same f g no_items same = refl
all-same f g (item d ds) same =
    ap (option_and_then (λ first. option_map (λ rest. first ∷ rest) (all_read f ds))) (same d (omega arith))
    ∙ ap (λ more. option_and_then (λ first. option_map (λ rest. first ∷ rest) more) (g d)) (all-same f g ds (λ x le. same x (omega (arith, le))))

parts-same : (f g : Data → Option PredAsked) (value : Data) → Agree f g (depth value) → parts_in f value ≡ parts_in g value
parts-same f g value agree = by (get (codes "of") value) refl
  where
    by : (o : Option Data) → get (codes "of") value ≡ o
        → shaped (option_and_then as_array o) (all_read f) ≡ shaped (option_and_then as_array o) (all_read g)
    by None e = refl
    by (Some null) e = refl
    by (Some (boolean b)) e = refl
    by (Some (number n)) e = refl
    by (Some (string s)) e = refl
    by (Some (array ds)) e = all-same f g ds (λ d le. agree d (omega (arith, le, field_depth (codes "of") value (array ds) e)))
    by (Some (object ms)) e = refl

pred_with-same : (f g : Data → Option PredAsked) (value : Data) (word : List ℕ) → Agree f g (depth value) → pred_with f value word ≡ pred_with g value word
pred_with-same f g value word agree = cc (parts-same f g value agree, under-same f g (codes "of") value agree)

linear-same : (f g : Data → Option Expr) (value : Data) → Agree f g (depth value) → linear_in f value ≡ linear_in g value
linear-same f g value agree =
    shaped-same (integer_at (codes "a") value) _ _ (λ a. shaped-same (integer_at (codes "b") value) _ _ (λ b.
    ap (option_map (expr.Linear a b)) (under-same f g (codes "of") value agree)))

join-same : (f g : Data → Option Expr) (value : Data) → Agree f g (depth value) → join_in f value ≡ join_in g value
join-same f g value agree =
    ap (λ one. shaped one (λ left. shaped (text_at (codes "between") value) (λ between. option_map (expr.Join left between) (under f (codes "right") value))))
    (under-same f g (codes "left") value agree)
    ∙ shaped-same (under g (codes "left") value) _ _ (λ left. shaped-same (text_at (codes "between") value) _ _ (λ between.
    ap (option_map (expr.Join left between)) (under-same f g (codes "right") value agree)))

expr_with-same : (f g : Data → Option Expr) (value : Data) (word : List ℕ) → Agree f g (depth value) → expr_with f value word ≡ expr_with g value word
expr_with-same f g value word agree =
    cc (under-same f g (codes "of") value agree, linear-same f g value agree, join-same f g value agree)

term_with-same : (f g : Data → Result TermOver Why) (base : TermOver) (value : Data) (word : List ℕ) → Agree f g (depth value)
    → term_with f base value word ≡ term_with g base value word
term_with-same f g base value word agree =
    cc (inner-same f g (codes "of") value agree, inner-same f g (codes "left") value agree, inner-same f g (codes "right") value agree)

-- ---- levels

pred_levels : (n m : ℕ) (value : Data) → depth value ≤ n → depth value ≤ m → pred_in (suc n) value ≡ pred_in (suc m) value
unfolding pred_in
pred_levels zero m value first second =
    shaped-same (text_at (codes "p") value) _ _ (λ word. pred_with-same (pred_in zero) (pred_in m) value word (λ d le. absurd (omega (arith, le, first))))
pred_levels (suc n) zero value first second =
    shaped-same (text_at (codes "p") value) _ _ (λ word. pred_with-same (pred_in (suc n)) (pred_in zero) value word (λ d le. absurd (omega (arith, le, second))))
pred_levels (suc n) (suc m) value first second =
    shaped-same (text_at (codes "p") value) _ _ (λ word. pred_with-same (pred_in (suc n)) (pred_in (suc m)) value word
    (λ d le. pred_levels n m d (omega (arith, le, first)) (omega (arith, le, second))))

expr_levels : (n m : ℕ) (value : Data) → depth value ≤ n → depth value ≤ m → expr_in (suc n) value ≡ expr_in (suc m) value
unfolding expr_in
expr_levels zero m value first second =
    shaped-same (text_at (codes "e") value) _ _ (λ word. expr_with-same (expr_in zero) (expr_in m) value word (λ d le. absurd (omega (arith, le, first))))
expr_levels (suc n) zero value first second =
    shaped-same (text_at (codes "e") value) _ _ (λ word. expr_with-same (expr_in (suc n)) (expr_in zero) value word (λ d le. absurd (omega (arith, le, second))))
expr_levels (suc n) (suc m) value first second =
    shaped-same (text_at (codes "e") value) _ _ (λ word. expr_with-same (expr_in (suc n)) (expr_in (suc m)) value word
    (λ d le. expr_levels n m d (omega (arith, le, first)) (omega (arith, le, second))))

term_levels : (base : TermOver) (n m : ℕ) (value : Data) → depth value ≤ n → depth value ≤ m → term_in (suc n) base value ≡ term_in (suc m) base value
unfolding term_in
term_levels base zero m value first second =
    field-same (text_at (codes "t") value) _ _ (λ word. term_with-same (term_in zero base) (term_in m base) base value word (λ d le. absurd (omega (arith, le, first))))
term_levels base (suc n) zero value first second =
    field-same (text_at (codes "t") value) _ _ (λ word. term_with-same (term_in (suc n) base) (term_in zero base) base value word (λ d le. absurd (omega (arith, le, second))))
term_levels base (suc n) (suc m) value first second =
    field-same (text_at (codes "t") value) _ _ (λ word. term_with-same (term_in (suc n) base) (term_in (suc m) base) base value word
    (λ d le. term_levels base n m d (omega (arith, le, first)) (omega (arith, le, second))))

pub enough_for_preds : (n : ℕ) (value : Data) → depth value ≤ max_depth → levels ≤ n → pred_in n value ≡ pred_in levels value
enough_for_preds zero value deep more = absurd (omega (arith, more))
enough_for_preds (suc n) value deep more = pred_levels n max_depth value (omega (arith, deep, more)) deep

pub enough_for_exprs : (n : ℕ) (value : Data) → depth value ≤ max_depth → levels ≤ n → expr_in n value ≡ expr_in levels value
enough_for_exprs zero value deep more = absurd (omega (arith, more))
enough_for_exprs (suc n) value deep more = expr_levels n max_depth value (omega (arith, deep, more)) deep

pub enough_for_terms : (base : TermOver) (n : ℕ) (value : Data) → depth value ≤ max_depth → levels ≤ n → term_in n base value ≡ term_in levels base value
enough_for_terms base zero value deep more = absurd (omega (arith, more))
enough_for_terms base (suc n) value deep more = term_levels base n max_depth value (omega (arith, deep, more)) deep
