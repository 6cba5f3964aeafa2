-- A term reads back from its JSON, over the base that it has: each node with the checks of its message.
use Rattle.std.proofs.Common.{◌≡◌, ◌+◌, ◌≤◌, ◌≤ℤ◌, ◌∙◌, ◌&&◌, ℕ, zero, suc, max, ℤ, pos, int_le, true, List, None, Ok, refl, sym, ap, subst, arith}
use Rattle.std.specs.Cmp.Derive.{both_true}
use Rattle.std.proofs.lemmas.Bool.{lt-leb}
use Rattle.jiff_core.proofs.SignedLemmas.{signed_arith}
use Rattle.serde_json.specs.Data.{Data}
use Rattle.serde_json.proofs.OnLiterals.{serde_json_on_literals}
use Rattle.hv_expr.specs.declared.expr.Expr.{Expr}
use Rattle.hv_expr.specs.declared.pred.Pred.{Pred}
use Rattle.hv_expr.specs.Checks.{pred_fault}
use Rattle.hv_expr.proofs.IntTests.{tested}
use Rattle.hv_value.specs.SameLaws.{same_by-self}
use Rattle.hv_lineage.specs.contracts.base.Base as row
use Rattle.hv_lineage.specs.Bases.{base_columns}
use Rattle.hv_lineage.specs.Combining.{combine_refusal, combined, pair_refusal, sampled}
use Rattle.hv_lineage.specs.Lineages.{IsFitColumn, IsFitSample, TermOver, derived, filtered, lineage_columns, projected, room_refusal}
use Rattle.hv_lineage.specs.Made.{columns_of}
use Rattle.hv_lineage.specs.Refusals.{choice_refusal, how_refusal}
use Rattle.hv_lineage.specs.Sizes.{term_depth, term_size}
use Rattle.hv_lineage.specs.declared.base.Base.{Base}
use Rattle.hv_lineage.specs.declared.how.How2.{How2}
use Rattle.hv_lineage.specs.declared.how.How2.TheVariants as how2
use Rattle.hv_lineage.specs.declared.term.Term.{Term, every-Term, every_here-Term, every_held-Term, ind-Term, map-Term, out-Term, roll-Term}
use Rattle.hv_lineage.specs.declared.term.Term.TheOpen.{Term-F}
use Rattle.hv_lineage.specs.declared.term.Term.TheVariants as term
use Rattle.hv_lineage.specs.declared.term.TheConstants.{MAX_TERM_DEPTH, MAX_TERM_NODES}
use Rattle.hv_lineage.proofs.TermNodes.{AreFit, depth-Base, depth-Combine, depth-Derive, depth-Filter, depth-Project, depth-Sample, fold-Base, fold-Combine, fold-Derive, fold-Filter, fold-Project, fold-Sample, here-Combine, here-Derive, here-Filter, here-Project, here-Sample, inner-Derive, inner-Filter, inner-Project, inner-Sample, inner-left, inner-right, size-Combine, size-Derive, size-Filter, size-Project, size-Sample}
use Rattle.hv_asked.specs.Flaws.{and_then}
use Rattle.hv_asked.specs.declared.limits.TheConstants.{MAX_SEED, MAX_THRESHOLD}
use Rattle.hv_message.specs.declared.asked.TermAsked.TheVariants as asks
use Rattle.hv_message.specs.LineageTexts.{of_both, term_in}
use Rattle.hv_message.specs.Terms.{both_combined, derive_of, filter_of, fits_term, over, project_of, sample_of}
use Rattle.hv_reply.specs.Lineages.{term_data, term_node_data}
use Rattle.hv_reply.specs.ReadBack.{IsGivenExpr, IsGivenNode, IsGivenPred}
use Rattle.hv_reply.proofs.BaseBack.{based, texts_back}
use Rattle.hv_reply.proofs.ExprBack as expr
use Rattle.hv_reply.proofs.PredBack.{PredBack}
use Rattle.hv_reply.proofs.PredBack as pred

-- ---- the nodes below one keep to what all keep to

module _ (Q : Term-F Term → Type 0) where
  abbrev pub Keeps : Term → Type 0
  Keeps t = every-Term Q t

  -- those that a node is of do
  abbrev KeepBelow : Term-F Term → Type 0
  KeepBelow Term-F.Base = Unit {0}
  KeepBelow (Term-F.Filter of p) = Keeps of
  KeepBelow (Term-F.Project of cols) = Keeps of
  KeepBelow (Term-F.Derive of name e) = Keeps of
  KeepBelow (Term-F.Sample of seed threshold) = Keeps of
  KeepBelow (Term-F.Combine how left right) = Keeps left × Keeps right

  held_below : (node : Term-F ((x : Term) × Keeps x)) → KeepBelow (map-Term ((x : Term) × Keeps x) Term (λ e. e.0) node)
  held_below Term-F.Base = tt
  held_below (Term-F.Filter of p) = of.1
  held_below (Term-F.Project of cols) = of.1
  held_below (Term-F.Derive of name e) = of.1
  held_below (Term-F.Sample of seed threshold) = of.1
  held_below (Term-F.Combine how left right) = (left.1, right.1)

  below : (t : Term) → Keeps t → KeepBelow (out-Term t)
  below t all = let held = every_held-Term Q t all in subst KeepBelow held.1 (held_below held.0)

  pub below-Filter : (of : Term) (p : Pred) → Keeps (term.Filter of p) → Keeps of
  below-Filter of p all = rw term.outs-Filter at (below (term.Filter of p) all)

  pub below-Project : (of : Term) (cols : List (List ℕ)) → Keeps (term.Project of cols) → Keeps of
  below-Project of cols all = rw term.outs-Project at (below (term.Project of cols) all)

  pub below-Derive : (of : Term) (name : List ℕ) (e : Expr) → Keeps (term.Derive of name e) → Keeps of
  below-Derive of name e all = rw term.outs-Derive at (below (term.Derive of name e) all)

  pub below-Sample : (of : Term) (seed threshold : ℕ) → Keeps (term.Sample of seed threshold) → Keeps of
  below-Sample of seed threshold all = rw term.outs-Sample at (below (term.Sample of seed threshold) all)

  pub below-Combine : (how : How2) (left right : Term) → Keeps (term.Combine how left right) → Keeps left × Keeps right
  below-Combine how left right all = rw term.outs-Combine at (below (term.Combine how left right) all)

pub given-Filter : (of : Term) (p : Pred) → Keeps IsGivenNode (term.Filter of p) → IsGivenPred p
given-Filter of p all = rw term.outs-Filter at (every_here-Term IsGivenNode (term.Filter of p) all)

pub given-Derive : (of : Term) (name : List ℕ) (e : Expr) → Keeps IsGivenNode (term.Derive of name e) → IsGivenExpr e
given-Derive of name e all = rw term.outs-Derive at (every_here-Term IsGivenNode (term.Derive of name e) all)

-- ---- what each node reads as

module _ (m : ℕ) (base : TermOver) where
  base_in : term_in (suc m) base (term_node_data Term-F.Base) ≡ Ok base
  unfolding term_in serde_json_on_literals
  base_in = refl

  filter_in : (d : Data) (p : Pred) → term_in (suc m) base (term_node_data (Term-F.Filter d p)) ≡ and_then (over filter_of (term_node_data (Term-F.Filter d p))) (term_in m base d)
  unfolding term_in serde_json_on_literals
  filter_in d p = refl

  project_in : (d : Data) (cols : List (List ℕ))
      → term_in (suc m) base (term_node_data (Term-F.Project d cols)) ≡ and_then (over project_of (term_node_data (Term-F.Project d cols))) (term_in m base d)
  unfolding term_in serde_json_on_literals
  project_in d cols = refl

  derive_in : (d : Data) (name : List ℕ) (e : Expr)
      → term_in (suc m) base (term_node_data (Term-F.Derive d name e)) ≡ and_then (over derive_of (term_node_data (Term-F.Derive d name e))) (term_in m base d)
  unfolding term_in serde_json_on_literals
  derive_in d name e = refl

  sample_in : (d : Data) (seed threshold : ℕ)
      → term_in (suc m) base (term_node_data (Term-F.Sample d seed threshold)) ≡ and_then (over sample_of (term_node_data (Term-F.Sample d seed threshold))) (term_in m base d)
  unfolding term_in serde_json_on_literals
  sample_in d seed threshold = refl

  combine_in : (how : How2) (l r : Data) → term_in (suc m) base (term_node_data (Term-F.Combine how l r)) ≡ of_both (term_in m base l) (term_in m base r) (both_combined how)
  unfolding term_in serde_json_on_literals
  combine_in how2.Zip l r = refl
  combine_in how2.Union l r = refl
  combine_in how2.Both l r = refl
  combine_in how2.Minus l r = refl

-- ---- what each makes of a lineage that has room

room : (lineage : TermOver) → term_depth lineage.term + 1 ≤ MAX_TERM_DEPTH → term_size lineage.term + 1 ≤ MAX_TERM_NODES → room_refusal lineage ≡ None
room lineage deep large =
    rw (lt-leb (suc MAX_TERM_DEPTH) (term_depth lineage.term + 1) (omega arith), lt-leb (suc MAX_TERM_NODES) (term_size lineage.term + 1) (omega arith)) refl

at_most : (n most : ℕ) → n ≤ most → (int_le (pos 0) (pos n) && int_le (pos n) (pos most)) ≡ true
at_most n most small =
    let low : pos 0 ≤ℤ pos n = omega (arith, signed_arith) in
    let high : pos n ≤ℤ pos most = omega (arith, signed_arith, small) in
    both_true (tested (int_le (pos 0) (pos n)) low.le) (tested (int_le (pos n) (pos most)) high.le)

sample_fits : (seed threshold : ℕ) → IsFitSample seed threshold → fits_term (asks.Sample (pos threshold) (pos seed)) ≡ true
sample_fits seed threshold fit = both_true (at_most threshold MAX_THRESHOLD (omega (arith, fit.within))) (at_most seed MAX_SEED (omega (arith, fit.word)))

module _ (lineage : TermOver) (d : Data) (free : room_refusal lineage ≡ None) where
  filter_made : (p : Pred) → pred_fault (lineage_columns lineage) p ≡ None → PredBack (lineage_columns lineage) p
      → over filter_of (term_node_data (Term-F.Filter d p)) lineage ≡ Ok (filtered lineage p)
  unfolding serde_json_on_literals
  filter_made p fine back = rw (back.reads, back.fits, back.dated, fine, free) refl

  project_made : (cols : List (List ℕ)) → choice_refusal (lineage_columns lineage) cols ≡ None
      → over project_of (term_node_data (Term-F.Project d cols)) lineage ≡ Ok (projected lineage cols)
  unfolding serde_json_on_literals
  project_made cols fine = rw (texts_back cols, fine, free) refl

  derive_made : (name : List ℕ) (e : Expr) → IsFitColumn (lineage_columns lineage) name e → IsGivenExpr e
      → over derive_of (term_node_data (Term-F.Derive d name e)) lineage ≡ Ok (derived lineage name e)
  unfolding serde_json_on_literals
  derive_made name e fit given = rw (expr.whole_back (lineage_columns lineage) e fit.value, expr.fits_back e given, fit.value, fit.named, free) refl

  sample_made : (seed threshold : ℕ) → IsFitSample seed threshold
      → over sample_of (term_node_data (Term-F.Sample d seed threshold)) lineage ≡ Ok (sampled lineage seed threshold)
  unfolding serde_json_on_literals
  sample_made seed threshold fit = rw (sample_fits seed threshold fit, free) refl

-- ---- and of two over one base

pair_room : (left right : TermOver) → max (term_depth left.term) (term_depth right.term) + 1 ≤ MAX_TERM_DEPTH
    → term_size left.term + term_size right.term + 1 ≤ MAX_TERM_NODES → pair_refusal left right ≡ None
pair_room left right deep large =
    rw (
      lt-leb (suc MAX_TERM_DEPTH) (max (term_depth left.term) (term_depth right.term) + 1) (omega arith),
      lt-leb (suc MAX_TERM_NODES) (term_size left.term + term_size right.term + 1) (omega arith),
    ) refl

-- ---- a term reads back, at as many levels as it is deep

module _ (b : Base) where
  abbrev with : Term → TermOver
  with t = record { base = b; term = t }

  abbrev ReadsTerm : Term → Type 0
  ReadsTerm t = AreFit (base_columns b) t → Keeps IsGivenNode t → term_depth t ≤ MAX_TERM_DEPTH → term_size t ≤ MAX_TERM_NODES
      → (m : ℕ) → term_depth t ≤ m → term_in m (based b) (term_data t) ≡ Ok (with t)

  -- the base is the same as itself
  pair_fits : (how : How2) (left right : Term) → how_refusal how (columns_of (base_columns b) left) (columns_of (base_columns b) right) ≡ None
      → pair_refusal (with left) (with right) ≡ None → combine_refusal how (with left) (with right) ≡ None
  pair_fits how left right fine free = rw (same_by-self row.the_row.coded b, fine, free) refl

  base_term : ReadsTerm term.Base
  unfolding term_data
  base_term fit given deep large zero high = absurd (omega (arith, depth-Base, high))
  base_term fit given deep large (suc m) high = ap (term_in (suc m) (based b)) (fold-Base Data term_node_data) ∙ base_in m (based b)

  filter_term : (of : Term) (p : Pred) → ReadsTerm of → ReadsTerm (term.Filter of p)
  unfolding term_data
  filter_term of p inner fit given deep large zero high = absurd (omega (arith, depth-Filter of p, high))
  filter_term of p inner fit given deep large (suc m) high =
      let fine : pred_fault (columns_of (base_columns b) of) p ≡ None = here-Filter (base_columns b) of p fit in
      ap (term_in (suc m) (based b)) (fold-Filter Data term_node_data of p) ∙ filter_in m (based b) (term_data of) p
      ∙ ap (and_then (over filter_of (term_node_data (Term-F.Filter (term_data of) p))))
      (inner (inner-Filter (base_columns b) of p fit) (below-Filter IsGivenNode of p given) (omega (arith, depth-Filter of p)) (omega (arith, size-Filter of p)) m (omega (arith, depth-Filter of p)))
      ∙ filter_made (with of) (term_data of) (room (with of) (omega (arith, depth-Filter of p)) (omega (arith, size-Filter of p))) p fine
      (pred.whole_back (columns_of (base_columns b) of) p fine (given-Filter of p given))

  project_term : (of : Term) (cols : List (List ℕ)) → ReadsTerm of → ReadsTerm (term.Project of cols)
  unfolding term_data
  project_term of cols inner fit given deep large zero high = absurd (omega (arith, depth-Project of cols, high))
  project_term of cols inner fit given deep large (suc m) high =
      ap (term_in (suc m) (based b)) (fold-Project Data term_node_data of cols) ∙ project_in m (based b) (term_data of) cols
      ∙ ap (and_then (over project_of (term_node_data (Term-F.Project (term_data of) cols))))
      (inner (inner-Project (base_columns b) of cols fit) (below-Project IsGivenNode of cols given) (omega (arith, depth-Project of cols)) (omega (arith, size-Project of cols)) m (omega (arith, depth-Project of cols)))
      ∙ project_made (with of) (term_data of) (room (with of) (omega (arith, depth-Project of cols)) (omega (arith, size-Project of cols))) cols
      (here-Project (base_columns b) of cols fit)

  derive_term : (of : Term) (name : List ℕ) (e : Expr) → ReadsTerm of → ReadsTerm (term.Derive of name e)
  unfolding term_data
  derive_term of name e inner fit given deep large zero high = absurd (omega (arith, depth-Derive of name e, high))
  derive_term of name e inner fit given deep large (suc m) high =
      ap (term_in (suc m) (based b)) (fold-Derive Data term_node_data of name e) ∙ derive_in m (based b) (term_data of) name e
      ∙ ap (and_then (over derive_of (term_node_data (Term-F.Derive (term_data of) name e))))
      (inner (inner-Derive (base_columns b) of name e fit) (below-Derive IsGivenNode of name e given) (omega (arith, depth-Derive of name e)) (omega (arith, size-Derive of name e)) m (omega (arith, depth-Derive of name e)))
      ∙ derive_made (with of) (term_data of) (room (with of) (omega (arith, depth-Derive of name e)) (omega (arith, size-Derive of name e))) name e
      (here-Derive (base_columns b) of name e fit) (given-Derive of name e given)

  sample_term : (of : Term) (seed threshold : ℕ) → ReadsTerm of → ReadsTerm (term.Sample of seed threshold)
  unfolding term_data
  sample_term of seed threshold inner fit given deep large zero high = absurd (omega (arith, depth-Sample of seed threshold, high))
  sample_term of seed threshold inner fit given deep large (suc m) high =
      ap (term_in (suc m) (based b)) (fold-Sample Data term_node_data of seed threshold) ∙ sample_in m (based b) (term_data of) seed threshold
      ∙ ap (and_then (over sample_of (term_node_data (Term-F.Sample (term_data of) seed threshold))))
      (inner (inner-Sample (base_columns b) of seed threshold fit) (below-Sample IsGivenNode of seed threshold given) (omega (arith, depth-Sample of seed threshold)) (omega (arith, size-Sample of seed threshold)) m (omega (arith, depth-Sample of seed threshold)))
      ∙ sample_made (with of) (term_data of) (room (with of) (omega (arith, depth-Sample of seed threshold)) (omega (arith, size-Sample of seed threshold))) seed threshold
      (here-Sample (base_columns b) of seed threshold fit)

  combine_term : (how : How2) (left right : Term) → ReadsTerm left → ReadsTerm right → ReadsTerm (term.Combine how left right)
  unfolding term_data
  combine_term how left right first second fit given deep large zero high = absurd (omega (arith, depth-Combine how left right, high))
  combine_term how left right first second fit given deep large (suc m) high =
      let depths : term_depth (term.Combine how left right) ≡ max (term_depth left) (term_depth right) + 1 = depth-Combine how left right in
      let sizes : term_size (term.Combine how left right) ≡ term_size left + term_size right + 1 = size-Combine how left right in
      let inner : Keeps IsGivenNode left × Keeps IsGivenNode right = below-Combine IsGivenNode how left right given in
      let l : term_in m (based b) (term_data left) ≡ Ok (with left)
      = first (inner-left (base_columns b) how left right fit) inner.0 (omega (arith, depths)) (omega (arith, sizes)) m (omega (arith, depths)) in
      let r : term_in m (based b) (term_data right) ≡ Ok (with right)
      = second (inner-right (base_columns b) how left right fit) inner.1 (omega (arith, depths)) (omega (arith, sizes)) m (omega (arith, depths)) in
      let fine : combine_refusal how (with left) (with right) ≡ None
      = pair_fits how left right (here-Combine (base_columns b) how left right fit) (pair_room (with left) (with right) (omega (arith, depths)) (omega (arith, sizes))) in
      ap (term_in (suc m) (based b)) (fold-Combine Data term_node_data how left right) ∙ combine_in m (based b) how (term_data left) (term_data right)
      ∙ rw (l, r, fine) refl

  layer : (y : Term-F ((t : Term) × ReadsTerm t)) → ReadsTerm (roll-Term (map-Term ((t : Term) × ReadsTerm t) Term (λ e. e.0) y))
  layer Term-F.Base = subst ReadsTerm (sym term.rolls-Base) base_term
  layer (Term-F.Filter of p) = subst ReadsTerm (sym (term.rolls-Filter of.0 p)) (filter_term of.0 p of.1)
  layer (Term-F.Project of cols) = subst ReadsTerm (sym (term.rolls-Project of.0 cols)) (project_term of.0 cols of.1)
  layer (Term-F.Derive of name e) = subst ReadsTerm (sym (term.rolls-Derive of.0 name e)) (derive_term of.0 name e of.1)
  layer (Term-F.Sample of seed threshold) = subst ReadsTerm (sym (term.rolls-Sample of.0 seed threshold)) (sample_term of.0 seed threshold of.1)
  layer (Term-F.Combine how left right) = subst ReadsTerm (sym (term.rolls-Combine how left.0 right.0)) (combine_term how left.0 right.0 left.1 right.1)

  pub term_back : (t : Term) → ReadsTerm t
  term_back = ind-Term ReadsTerm (λ x y is. subst (λ z. ReadsTerm (roll-Term z)) is (layer y))
