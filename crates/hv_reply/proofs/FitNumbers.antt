-- A lineage's expressions have factors and summands of 64 bits.
use Rattle.std.proofs.Common.{◌≡◌, ◌∙◌, Bool, true, refl, sym, subst}
use Rattle.hv_expr.specs.Checks.{has_fit_factors}
use Rattle.hv_lineage.specs.Bases.{base_columns}
use Rattle.hv_lineage.specs.Lineages.{IsLineage, TermOver}
use Rattle.hv_lineage.specs.declared.term.Term.{Term, ind-Term, map-Term, roll-Term}
use Rattle.hv_lineage.specs.declared.term.Term.TheOpen.{Term-F}
use Rattle.hv_lineage.specs.declared.term.Term.TheVariants as term
use Rattle.hv_lineage.proofs.TermNodes.{AreFit, fold-Base, fold-Combine, fold-Derive, fold-Filter, fold-Project, fold-Sample, here-Derive, inner-Derive, inner-Filter, inner-Project, inner-Sample, inner-left, inner-right}
use Rattle.hv_value.specs.Schema.{Columns}
use Rattle.hv_reply.specs.Lineages.{fit_term_node, has_fit_numbers}

module _ (columns : Columns) where
  abbrev FitTerm : Term → Type 0
  FitTerm t = AreFit columns t → has_fit_numbers t ≡ true

  layer : (y : Term-F ((t : Term) × FitTerm t)) → FitTerm (roll-Term (map-Term ((t : Term) × FitTerm t) Term (λ e. e.0) y))
  unfolding has_fit_numbers
  layer Term-F.Base = subst FitTerm (sym term.rolls-Base) (λ fit. fold-Base Bool fit_term_node)
  layer (Term-F.Filter of p) = subst FitTerm (sym (term.rolls-Filter of.0 p)) (λ fit.
      fold-Filter Bool fit_term_node of.0 p ∙ of.1 (inner-Filter columns of.0 p fit))
  layer (Term-F.Project of cols) = subst FitTerm (sym (term.rolls-Project of.0 cols)) (λ fit.
      fold-Project Bool fit_term_node of.0 cols ∙ of.1 (inner-Project columns of.0 cols fit))
  layer (Term-F.Derive of name e) = subst FitTerm (sym (term.rolls-Derive of.0 name e)) (λ fit.
      let below : has_fit_numbers of.0 ≡ true = of.1 (inner-Derive columns of.0 name e fit) in
      let here : has_fit_factors e ≡ true = (here-Derive columns of.0 name e fit).factors in
      fold-Derive Bool fit_term_node of.0 name e ∙ rw (below, here) refl)
  layer (Term-F.Sample of seed threshold) = subst FitTerm (sym (term.rolls-Sample of.0 seed threshold)) (λ fit.
      fold-Sample Bool fit_term_node of.0 seed threshold ∙ of.1 (inner-Sample columns of.0 seed threshold fit))
  layer (Term-F.Combine how left right) = subst FitTerm (sym (term.rolls-Combine how left.0 right.0)) (λ fit.
      let first : has_fit_numbers left.0 ≡ true = left.1 (inner-left columns how left.0 right.0 fit) in
      let second : has_fit_numbers right.0 ≡ true = right.1 (inner-right columns how left.0 right.0 fit) in
      fold-Combine Bool fit_term_node how left.0 right.0 ∙ rw (first, second) refl)

  term_fit : (t : Term) → FitTerm t
  term_fit = ind-Term FitTerm (λ x y is. subst (λ z. FitTerm (roll-Term z)) is (layer y))

pub lineage_fit : (lineage : TermOver) → IsLineage lineage → has_fit_numbers lineage.term ≡ true
lineage_fit lineage kept = term_fit (base_columns lineage.base) lineage.term kept.fits
