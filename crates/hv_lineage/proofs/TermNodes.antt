-- Terms node by node: their depth and size, what they make of a base, and what each of their nodes keeps.
use Rattle.std.proofs.Common.{◌≡◌, ◌+◌, ◌∙◌, ℕ, List, None, refl, sym, ap, subst, arith}
use Rattle.std.specs.Prelude.{max}
use Rattle.hv_value.specs.Schema.{Columns}
use Rattle.hv_expr.specs.Checks.{kind_of, pred_fault}
use Rattle.hv_expr.specs.declared.expr.Expr.{Expr}
use Rattle.hv_expr.specs.declared.pred.Pred.{Pred}
use Rattle.hv_lineage.specs.declared.how.How2.{How2}
use Rattle.hv_lineage.specs.declared.term.Term.{Term, every-Term, every_made-Term, every_here-Term, every_held-Term, fold-Term, fold-roll-Term, map-Term, out-Term}
use Rattle.hv_lineage.specs.declared.term.Term.TheOpen.{Term-F}
use Rattle.hv_lineage.specs.declared.term.Term.TheVariants as term
use Rattle.hv_lineage.specs.declared.base.Base.{Base}
use Rattle.hv_lineage.specs.Bases.{IsFitBase, base_columns}
use Rattle.hv_lineage.specs.Kept.{Extends, HoldLineage}
use Rattle.hv_lineage.specs.Lineages.{IsFitColumn, IsFitNode, IsFitSample, TermOver}
use Rattle.hv_lineage.specs.Made.{Made, columns_by, columns_of, made_of, node_made, picked, with_column}
use Rattle.hv_lineage.specs.Refusals.{choice_refusal, how_refusal}
use Rattle.hv_lineage.specs.Sizes.{node_depth, node_size, term_depth, term_size}

module _ (A : Type 0) (step : Term-F A → A) where
  pub fold-Base : fold-Term A step term.Base ≡ step Term-F.Base
  fold-Base = ap (fold-Term A step) (sym term.rolls-Base) ∙ fold-roll-Term A step Term-F.Base

  pub fold-Filter : (of : Term) (pred : Pred) → fold-Term A step (term.Filter of pred) ≡ step (Term-F.Filter (fold-Term A step of) pred)
  fold-Filter of pred = ap (fold-Term A step) (sym (term.rolls-Filter of pred)) ∙ fold-roll-Term A step (Term-F.Filter of pred)

  pub fold-Project : (of : Term) (cols : List (List ℕ)) → fold-Term A step (term.Project of cols) ≡ step (Term-F.Project (fold-Term A step of) cols)
  fold-Project of cols = ap (fold-Term A step) (sym (term.rolls-Project of cols)) ∙ fold-roll-Term A step (Term-F.Project of cols)

  pub fold-Derive : (of : Term) (name : List ℕ) (expr : Expr)
      → fold-Term A step (term.Derive of name expr) ≡ step (Term-F.Derive (fold-Term A step of) name expr)
  fold-Derive of name expr = ap (fold-Term A step) (sym (term.rolls-Derive of name expr)) ∙ fold-roll-Term A step (Term-F.Derive of name expr)

  pub fold-Sample : (of : Term) (seed threshold : ℕ)
      → fold-Term A step (term.Sample of seed threshold) ≡ step (Term-F.Sample (fold-Term A step of) seed threshold)
  fold-Sample of seed threshold = ap (fold-Term A step) (sym (term.rolls-Sample of seed threshold)) ∙ fold-roll-Term A step (Term-F.Sample of seed threshold)

  pub fold-Combine : (how : How2) (left right : Term)
      → fold-Term A step (term.Combine how left right) ≡ step (Term-F.Combine how (fold-Term A step left) (fold-Term A step right))
  fold-Combine how left right = ap (fold-Term A step) (sym (term.rolls-Combine how left right)) ∙ fold-roll-Term A step (Term-F.Combine how left right)

-- the depth of each term
pub depth-Base : term_depth term.Base ≡ 1
unfolding term_depth
depth-Base = fold-Base ℕ node_depth

pub depth-Filter : (of : Term) (pred : Pred) → term_depth (term.Filter of pred) ≡ term_depth of + 1
unfolding term_depth
depth-Filter of pred = fold-Filter ℕ node_depth of pred

pub depth-Project : (of : Term) (cols : List (List ℕ)) → term_depth (term.Project of cols) ≡ term_depth of + 1
unfolding term_depth
depth-Project of cols = fold-Project ℕ node_depth of cols

pub depth-Derive : (of : Term) (name : List ℕ) (expr : Expr) → term_depth (term.Derive of name expr) ≡ term_depth of + 1
unfolding term_depth
depth-Derive of name expr = fold-Derive ℕ node_depth of name expr

pub depth-Sample : (of : Term) (seed threshold : ℕ) → term_depth (term.Sample of seed threshold) ≡ term_depth of + 1
unfolding term_depth
depth-Sample of seed threshold = fold-Sample ℕ node_depth of seed threshold

pub depth-Combine : (how : How2) (left right : Term) → term_depth (term.Combine how left right) ≡ max (term_depth left) (term_depth right) + 1
unfolding term_depth
depth-Combine how left right = fold-Combine ℕ node_depth how left right

-- its number of nodes
pub size-Base : term_size term.Base ≡ 1
unfolding term_size
size-Base = fold-Base ℕ node_size

pub size-Filter : (of : Term) (pred : Pred) → term_size (term.Filter of pred) ≡ term_size of + 1
unfolding term_size
size-Filter of pred = fold-Filter ℕ node_size of pred

pub size-Project : (of : Term) (cols : List (List ℕ)) → term_size (term.Project of cols) ≡ term_size of + 1
unfolding term_size
size-Project of cols = fold-Project ℕ node_size of cols

pub size-Derive : (of : Term) (name : List ℕ) (expr : Expr) → term_size (term.Derive of name expr) ≡ term_size of + 1
unfolding term_size
size-Derive of name expr = fold-Derive ℕ node_size of name expr

pub size-Sample : (of : Term) (seed threshold : ℕ) → term_size (term.Sample of seed threshold) ≡ term_size of + 1
unfolding term_size
size-Sample of seed threshold = fold-Sample ℕ node_size of seed threshold

pub size-Combine : (how : How2) (left right : Term) → term_size (term.Combine how left right) ≡ term_size left + term_size right + 1
unfolding term_size
size-Combine how left right = fold-Combine ℕ node_size how left right

-- what it makes of a base
pub made-Base : (base : Columns) → made_of base term.Base ≡ node_made base Term-F.Base
unfolding made_of
made-Base base = fold-Base Made (node_made base)

pub made-Filter : (base : Columns) (of : Term) (pred : Pred) → made_of base (term.Filter of pred) ≡ node_made base (Term-F.Filter (made_of base of) pred)
unfolding made_of
made-Filter base of pred = fold-Filter Made (node_made base) of pred

pub made-Project : (base : Columns) (of : Term) (cols : List (List ℕ))
    → made_of base (term.Project of cols) ≡ node_made base (Term-F.Project (made_of base of) cols)
unfolding made_of
made-Project base of cols = fold-Project Made (node_made base) of cols

pub made-Derive : (base : Columns) (of : Term) (name : List ℕ) (expr : Expr)
    → made_of base (term.Derive of name expr) ≡ node_made base (Term-F.Derive (made_of base of) name expr)
unfolding made_of
made-Derive base of name expr = fold-Derive Made (node_made base) of name expr

pub made-Sample : (base : Columns) (of : Term) (seed threshold : ℕ)
    → made_of base (term.Sample of seed threshold) ≡ node_made base (Term-F.Sample (made_of base of) seed threshold)
unfolding made_of
made-Sample base of seed threshold = fold-Sample Made (node_made base) of seed threshold

pub made-Combine : (base : Columns) (how : How2) (left right : Term)
    → made_of base (term.Combine how left right) ≡ node_made base (Term-F.Combine how (made_of base left) (made_of base right))
unfolding made_of
made-Combine base how left right = fold-Combine Made (node_made base) how left right

-- each node of a term can be used where those of its inner term and the outermost can
abbrev pub AreFit : Columns → Term → Type 0
AreFit base t = every-Term (IsFitNode base) t

pub fit-Base : (base : Columns) → AreFit base term.Base
fit-Base base = subst (AreFit base) term.rolls-Base (every_made-Term (IsFitNode base) Term-F.Base Term-F.Base refl tt)

pub fit-Filter : (base : Columns) (of : Term) (pred : Pred) → AreFit base of → pred_fault (columns_of base of) pred ≡ None → AreFit base (term.Filter of pred)
fit-Filter base of pred inner here =
    subst (AreFit base) (term.rolls-Filter of pred)
    (every_made-Term (IsFitNode base) (Term-F.Filter of pred) (Term-F.Filter (of, inner) pred) refl here)

pub fit-Project : (base : Columns) (of : Term) (cols : List (List ℕ)) → AreFit base of → choice_refusal (columns_of base of) cols ≡ None
    → AreFit base (term.Project of cols)
fit-Project base of cols inner here =
    subst (AreFit base) (term.rolls-Project of cols)
    (every_made-Term (IsFitNode base) (Term-F.Project of cols) (Term-F.Project (of, inner) cols) refl here)

pub fit-Derive : (base : Columns) (of : Term) (name : List ℕ) (expr : Expr) → AreFit base of → IsFitColumn (columns_of base of) name expr
    → AreFit base (term.Derive of name expr)
fit-Derive base of name expr inner here =
    subst (AreFit base) (term.rolls-Derive of name expr)
    (every_made-Term (IsFitNode base) (Term-F.Derive of name expr) (Term-F.Derive (of, inner) name expr) refl here)

pub fit-Sample : (base : Columns) (of : Term) (seed threshold : ℕ) → AreFit base of → IsFitSample seed threshold → AreFit base (term.Sample of seed threshold)
fit-Sample base of seed threshold inner here =
    subst (AreFit base) (term.rolls-Sample of seed threshold)
    (every_made-Term (IsFitNode base) (Term-F.Sample of seed threshold) (Term-F.Sample (of, inner) seed threshold) refl here)

pub fit-Combine : (base : Columns) (how : How2) (left right : Term) → AreFit base left → AreFit base right
    → how_refusal how (columns_of base left) (columns_of base right) ≡ None → AreFit base (term.Combine how left right)
fit-Combine base how left right first second here =
    subst (AreFit base) (term.rolls-Combine how left right)
    (every_made-Term (IsFitNode base) (Term-F.Combine how left right) (Term-F.Combine how (left, first) (right, second)) refl here)

-- a filter of a lineage has one more node
pub extends-Filter : (lineage : TermOver) (columns : Columns) (depth size : ℕ) (pred : Pred) → HoldLineage lineage columns depth size
    → pred_fault columns pred ≡ None → Extends lineage (term.Filter lineage.term pred) columns (term_depth lineage.term + 1) (term_size lineage.term + 1)
extends-Filter lineage columns depth size pred hold here =
    let base = base_columns lineage.base in
    record {
      fits = fit-Filter base lineage.term pred hold.whole.fits (rw (← hold.kept_columns) here);
      made = hold.kept_columns ∙ sym (ap (λ (m : Made). m.columns) (made-Filter base lineage.term pred));
      deeper = depth-Filter lineage.term pred;
      larger = size-Filter lineage.term pred;
    }

-- so has a choice of its columns
pub extends-Project : (lineage : TermOver) (columns : Columns) (depth size : ℕ) (cols : List (List ℕ)) → HoldLineage lineage columns depth size
    → choice_refusal columns cols ≡ None
    → Extends lineage (term.Project lineage.term cols) (picked columns cols) (term_depth lineage.term + 1) (term_size lineage.term + 1)
extends-Project lineage columns depth size cols hold here =
    let base = base_columns lineage.base in
    record {
      fits = fit-Project base lineage.term cols hold.whole.fits (rw (← hold.kept_columns) here);
      made = ap (λ (c : Columns). picked c cols) hold.kept_columns ∙ sym (ap (λ (m : Made). m.columns) (made-Project base lineage.term cols));
      deeper = depth-Project lineage.term cols;
      larger = size-Project lineage.term cols;
    }

-- and a column derived from them
pub extends-Derive : (lineage : TermOver) (columns : Columns) (depth size : ℕ) (name : List ℕ) (expr : Expr) → HoldLineage lineage columns depth size
    → IsFitColumn columns name expr
    → Extends lineage (term.Derive lineage.term name expr) (with_column columns name (kind_of columns expr)) (term_depth lineage.term + 1)
    (term_size lineage.term + 1)
extends-Derive lineage columns depth size name expr hold here =
    let base = base_columns lineage.base in
    record {
      fits = fit-Derive base lineage.term name expr hold.whole.fits (rw (← hold.kept_columns) here);
      made = ap (λ (c : Columns). with_column c name (kind_of c expr)) hold.kept_columns
          ∙ sym (ap (λ (m : Made). m.columns) (made-Derive base lineage.term name expr));
      deeper = depth-Derive lineage.term name expr;
      larger = size-Derive lineage.term name expr;
    }

-- and a sample of its rows
pub extends-Sample : (lineage : TermOver) (columns : Columns) (depth size : ℕ) (seed threshold : ℕ) → HoldLineage lineage columns depth size
    → IsFitSample seed threshold
    → Extends lineage (term.Sample lineage.term seed threshold) columns (term_depth lineage.term + 1) (term_size lineage.term + 1)
extends-Sample lineage columns depth size seed threshold hold here =
    let base = base_columns lineage.base in
    record {
      fits = fit-Sample base lineage.term seed threshold hold.whole.fits here;
      made = hold.kept_columns ∙ sym (ap (λ (m : Made). m.columns) (made-Sample base lineage.term seed threshold));
      deeper = depth-Sample lineage.term seed threshold;
      larger = size-Sample lineage.term seed threshold;
    }

-- two lineages of one base, combined, have the nodes of both and one more
pub extends-Combine : (how : How2) (left right : TermOver) (columns others : Columns) (depth size depth2 size2 : ℕ) → HoldLineage left columns depth size
    → HoldLineage right others depth2 size2 → left.base ≡ right.base → how_refusal how columns others ≡ None
    → Extends left (term.Combine how left.term right.term) (columns_by how columns others) (max (term_depth left.term) (term_depth right.term) + 1)
    (term_size left.term + term_size right.term + 1)
extends-Combine how left right columns others depth size depth2 size2 hold hold2 same here =
    let base = base_columns left.base in
    let fits : AreFit base right.term = rw same hold2.whole.fits in
    let others_are : others ≡ columns_of base right.term = rw same hold2.kept_columns in
    record {
      fits = fit-Combine base how left.term right.term hold.whole.fits fits (rw (← hold.kept_columns, ← others_are) here);
      made = ap (λ (c : Columns). columns_by how c others) hold.kept_columns
          ∙ ap (λ (c : Columns). columns_by how (columns_of base left.term) c) others_are
          ∙ sym (ap (λ (m : Made). m.columns) (made-Combine base how left.term right.term));
      deeper = depth-Combine how left.term right.term;
      larger = size-Combine how left.term right.term;
    }

-- what a base without a term over it keeps
pub hold-Base : (base : Base) → IsFitBase base → HoldLineage (record { base = base; term = term.Base }) (base_columns base) 1 1
hold-Base base fit = record {
  whole = record {
    base = fit;
    fits = fit-Base (base_columns base);
    shallow = omega (arith, depth-Base);
    small = omega (arith, size-Base);
  };
  kept_columns = sym (ap (λ (m : Made). m.columns) (made-Base (base_columns base)));
  kept_depth = sym depth-Base;
  kept_size = sym size-Base;
}

-- what is so of each inner term of a node
abbrev AllInner : (Term → Type 0) → Term-F Term → Type 0
AllInner P Term-F.Base = Unit {0}
AllInner P (Term-F.Filter of pred) = P of
AllInner P (Term-F.Project of cols) = P of
AllInner P (Term-F.Derive of name expr) = P of
AllInner P (Term-F.Sample of seed threshold) = P of
AllInner P (Term-F.Combine how left right) = P left × P right

all-inner : (P : Term → Type 0) (node : Term-F ((x : Term) × P x)) → AllInner P (map-Term ((x : Term) × P x) Term (λ e. e.0) node)
all-inner P Term-F.Base = tt
all-inner P (Term-F.Filter of pred) = of.1
all-inner P (Term-F.Project of cols) = of.1
all-inner P (Term-F.Derive of name expr) = of.1
all-inner P (Term-F.Sample of seed threshold) = of.1
all-inner P (Term-F.Combine how left right) = (left.1, right.1)

-- where each node of a term can be used, its outermost can, and each of its inner terms
inner-fit : (base : Columns) (t : Term) → AreFit base t → AllInner (AreFit base) (out-Term t)
inner-fit base t fit =
    let held = every_held-Term (IsFitNode base) t fit in
    subst (AllInner (AreFit base)) held.1 (all-inner (AreFit base) held.0)

pub inner-Filter : (base : Columns) (of : Term) (pred : Pred) → AreFit base (term.Filter of pred) → AreFit base of
inner-Filter base of pred fit = rw term.outs-Filter at (inner-fit base (term.Filter of pred) fit)

pub here-Filter : (base : Columns) (of : Term) (pred : Pred) → AreFit base (term.Filter of pred) → pred_fault (columns_of base of) pred ≡ None
here-Filter base of pred fit = rw term.outs-Filter at (every_here-Term (IsFitNode base) (term.Filter of pred) fit)

pub inner-Project : (base : Columns) (of : Term) (cols : List (List ℕ)) → AreFit base (term.Project of cols) → AreFit base of
inner-Project base of cols fit = rw term.outs-Project at (inner-fit base (term.Project of cols) fit)

pub here-Project : (base : Columns) (of : Term) (cols : List (List ℕ)) → AreFit base (term.Project of cols)
    → choice_refusal (columns_of base of) cols ≡ None
here-Project base of cols fit = rw term.outs-Project at (every_here-Term (IsFitNode base) (term.Project of cols) fit)

pub inner-Derive : (base : Columns) (of : Term) (name : List ℕ) (expr : Expr) → AreFit base (term.Derive of name expr) → AreFit base of
inner-Derive base of name expr fit = rw term.outs-Derive at (inner-fit base (term.Derive of name expr) fit)

pub here-Derive : (base : Columns) (of : Term) (name : List ℕ) (expr : Expr) → AreFit base (term.Derive of name expr)
    → IsFitColumn (columns_of base of) name expr
here-Derive base of name expr fit = rw term.outs-Derive at (every_here-Term (IsFitNode base) (term.Derive of name expr) fit)

pub inner-Sample : (base : Columns) (of : Term) (seed threshold : ℕ) → AreFit base (term.Sample of seed threshold) → AreFit base of
inner-Sample base of seed threshold fit = rw term.outs-Sample at (inner-fit base (term.Sample of seed threshold) fit)

pub here-Sample : (base : Columns) (of : Term) (seed threshold : ℕ) → AreFit base (term.Sample of seed threshold) → IsFitSample seed threshold
here-Sample base of seed threshold fit = rw term.outs-Sample at (every_here-Term (IsFitNode base) (term.Sample of seed threshold) fit)

pub inner-left : (base : Columns) (how : How2) (left right : Term) → AreFit base (term.Combine how left right) → AreFit base left
inner-left base how left right fit =
    let both : AreFit base left × AreFit base right = rw term.outs-Combine at (inner-fit base (term.Combine how left right) fit) in
    both.0

pub inner-right : (base : Columns) (how : How2) (left right : Term) → AreFit base (term.Combine how left right) → AreFit base right
inner-right base how left right fit =
    let both : AreFit base left × AreFit base right = rw term.outs-Combine at (inner-fit base (term.Combine how left right) fit) in
    both.1

pub here-Combine : (base : Columns) (how : How2) (left right : Term) → AreFit base (term.Combine how left right)
    → how_refusal how (columns_of base left) (columns_of base right) ≡ None
here-Combine base how left right fit = rw term.outs-Combine at (every_here-Term (IsFitNode base) (term.Combine how left right) fit)

pub ruleset folds = (fold-Base, fold-Filter, fold-Project, fold-Derive, fold-Sample, fold-Combine)
