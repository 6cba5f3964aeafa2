use Rattle.std.proofs.Common.{◌≡◌, ◌+◌, ◌∙◌, ap, arith, max, refl, None}
use Rattle.std.proofs.lemmas.Result.{IfOk-weaker}
use Rattle.hv_lineage.specs.declared.term.Term.TheVariants as term
use Rattle.hv_lineage.specs.Sizes.{term_depth}
use Rattle.hv_lineage.specs.Refusals.{choice_refusal}
use Rattle.hv_lineage.proofs.TermNodes.{AreFit, depth-Combine, depth-Derive, depth-Filter, depth-Project, depth-Sample, here-Combine, here-Derive, here-Project, inner-Derive, inner-Filter, inner-Project, inner-Sample, inner-left, inner-right}
use Rattle.hv_made.specs.Steps.{IsMadeOf, passing, picked_rows, with_picked, with_rows}
use Rattle.hv_made.proofs.ColumnSteps.{chosen}
use Rattle.hv_made.proofs.RowSteps.{step-Base, step-Combine, step-Derive, step-Filter, step-Project, step-Sample}
use Rattle.hv_made.proofs.made.+applied.Goals as goal

-- what each node keeps, its inner term does
pub applied-requires : goal.applied-requires
applied-requires t c =
    let base = c.args.base.columns in
    let of = c.in-Filter.of in
    let fits : AreFit base (term.Filter of c.in-Filter.pred) = rw c.in-Filter.is at c.requires.fits in
    let deep : term_depth c.args.term.now ≡ term_depth of + 1 = ap term_depth c.in-Filter.is ∙ depth-Filter of c.in-Filter.pred in
    rw c.get.ensures (omega (arith, c.decreases, deep), inner-Filter base of c.in-Filter.pred fits)

pub applied-requires-in-Project : goal.applied-requires-in-Project
applied-requires-in-Project t c =
    let base = c.args.base.columns in
    let of = c.in-Project.of in
    let fits : AreFit base (term.Project of c.in-Project.cols) = rw c.in-Project.is at c.requires.fits in
    let deep : term_depth c.args.term.now ≡ term_depth of + 1 = ap term_depth c.in-Project.is ∙ depth-Project of c.in-Project.cols in
    rw c.get-in-Project.ensures (omega (arith, c.decreases, deep), inner-Project base of c.in-Project.cols fits)

pub applied-requires-in-Derive : goal.applied-requires-in-Derive
applied-requires-in-Derive t c =
    let base = c.args.base.columns in
    let of = c.in-Derive.of in
    let name = c.in-Derive.name in
    let expr = c.in-Derive.expr in
    let fits : AreFit base (term.Derive of name expr) = rw c.in-Derive.is at c.requires.fits in
    let deep : term_depth c.args.term.now ≡ term_depth of + 1 = ap term_depth c.in-Derive.is ∙ depth-Derive of name expr in
    rw c.get-in-Derive.ensures (omega (arith, c.decreases, deep), inner-Derive base of name expr fits)

pub applied-requires-in-Sample : goal.applied-requires-in-Sample
applied-requires-in-Sample t c =
    let base = c.args.base.columns in
    let of = c.in-Sample.of in
    let seed = c.in-Sample.seed in
    let threshold = c.in-Sample.threshold in
    let fits : AreFit base (term.Sample of seed threshold) = rw c.in-Sample.is at c.requires.fits in
    let deep : term_depth c.args.term.now ≡ term_depth of + 1 = ap term_depth c.in-Sample.is ∙ depth-Sample of seed threshold in
    rw c.get-in-Sample.ensures (omega (arith, c.decreases, deep), inner-Sample base of seed threshold fits)

pub applied-requires-in-Combine : goal.applied-requires-in-Combine
applied-requires-in-Combine t c =
    let base = c.args.base.columns in
    let how = c.in-Combine.how in
    let left = c.in-Combine.left in
    let right = c.in-Combine.right in
    let fits : AreFit base (term.Combine how left right) = rw c.in-Combine.is at c.requires.fits in
    let deep : term_depth c.args.term.now ≡ max (term_depth left) (term_depth right) + 1 = ap term_depth c.in-Combine.is ∙ depth-Combine how left right in
    rw (c.get-in-Combine.ensures, c.in_ok-shared-in-Combine.ensures) (omega (arith, c.decreases, deep), inner-left base how left right fits)

pub applied-requires-in-Combine-2 : goal.applied-requires-in-Combine-2
applied-requires-in-Combine-2 t c =
    let base = c.args.base.columns in
    let how = c.in-Combine.how in
    let left = c.in-Combine.left in
    let right = c.in-Combine.right in
    let fits : AreFit base (term.Combine how left right) = rw c.in-Combine.is at c.requires.fits in
    let deep : term_depth c.args.term.now ≡ max (term_depth left) (term_depth right) + 1 = ap term_depth c.in-Combine.is ∙ depth-Combine how left right in
    rw c.get-in-Combine-2.ensures (omega (arith, c.decreases, deep), inner-right base how left right fits)

-- and its outermost node can be used
pub projected-requires : goal.projected-requires
projected-requires t c =
    let base = c.args.base.columns in
    let fits : AreFit base (term.Project c.in-Project.of c.in-Project.cols) = rw c.in-Project.is at c.requires.fits in
    rw (c.in_ok-applied-in-Project.ensures.columns_are, c.as_slice.ensures, c.get-in-Project-2.ensures, c.get-in-Project.ensures)
    (here-Project base c.in-Project.of c.in-Project.cols fits)

pub derived-requires : goal.derived-requires
derived-requires t c =
    let base = c.args.base.columns in
    let fits : AreFit base (term.Derive c.in-Derive.of c.in-Derive.name c.in-Derive.expr) = rw c.in-Derive.is at c.requires.fits in
    rw (c.in_ok-applied-in-Derive.ensures.columns_are, c.get-in-Derive.ensures, c.get-in-Derive-2.ensures, c.get-in-Derive-3.ensures)
    (here-Derive base c.in-Derive.of c.in-Derive.name c.in-Derive.expr fits)

-- two sides are of one height, and can be combined
pub combined-requires-clause-fit : goal.combined-requires-clause-fit
combined-requires-clause-fit t c =
    let base = c.args.base.columns in
    let how = c.in-Combine.how in
    let left = c.in-Combine.left in
    let right = c.in-Combine.right in
    let fits : AreFit base (term.Combine how left right) = rw c.in-Combine.is at c.requires.fits in
    rw (c.in_ok-left-in-Combine.ensures.columns_are, c.in_ok-applied-in-Combine.ensures.columns_are, c.in_ok-shared-in-Combine.ensures, c.get-in-Combine.ensures, c.get-in-Combine-2.ensures)
    (here-Combine base how left right fits)

pub combined-requires-clause-heights : goal.combined-requires-clause-heights
combined-requires-clause-heights t c =
    rw (c.in_ok-left-in-Combine.ensures.height_is, c.in_ok-applied-in-Combine.ensures.height_is, c.in_ok-shared-in-Combine.ensures) refl

-- the table of each node is made of that of its inner term
pub returns-in-Base : goal.returns-in-Base
returns-in-Base t c = rw c.in-Base.is (step-Base c.args.base)

pub returns-in_ok-applied-in-Filter : goal.returns-in_ok-applied-in-Filter
returns-in_ok-applied-in-Filter t c =
    let base = c.args.base in
    let of = c.in-Filter.of in
    let table = c.in_ok-applied-in-Filter.field-0 in
    let inner : IsMadeOf of base table = rw c.get.ensures at c.in_ok-applied-in-Filter.ensures in
    IfOk-weaker c.filtered.result _ _
    (λ made is.
    let same : made ≡ with_rows table (passing c.in-Filter.pred table) = rw c.get-in-Filter.ensures at is in
    rw (c.in-Filter.is, same) (step-Filter of base table inner c.in-Filter.pred))
    c.filtered.ensures

pub returns-in_ok-applied-in-Project : goal.returns-in_ok-applied-in-Project
returns-in_ok-applied-in-Project t c =
    let base = c.args.base in
    let of = c.in-Project.of in
    let table = c.in_ok-applied-in-Project.field-0 in
    let inner : IsMadeOf of base table = rw c.get-in-Project.ensures at c.in_ok-applied-in-Project.ensures in
    let fits : AreFit base.columns (term.Project of c.in-Project.cols) = rw c.in-Project.is at c.requires.fits in
    let none : choice_refusal table.columns c.in-Project.cols ≡ None = rw inner.columns_are (here-Project base.columns of c.in-Project.cols fits) in
    IfOk-weaker c.projected.result _ _
    (λ made is.
    let same : made ≡ with_picked table c.in-Project.cols = rw (c.as_slice.ensures, c.get-in-Project-2.ensures) at is.same in
    rw (c.in-Project.is, same)
    (step-Project of base table inner c.in-Project.cols is.wide (chosen table.columns c.in-Project.cols none).0))
    c.projected.ensures

pub returns-in_ok-applied-in-Derive : goal.returns-in_ok-applied-in-Derive
returns-in_ok-applied-in-Derive t c =
    let base = c.args.base in
    let of = c.in-Derive.of in
    let table = c.in_ok-applied-in-Derive.field-0 in
    let inner : IsMadeOf of base table = rw c.get-in-Derive.ensures at c.in_ok-applied-in-Derive.ensures in
    IfOk-weaker c.derived.result _ _
    (λ made is. rw c.in-Derive.is (step-Derive of base table inner c.in-Derive.name c.in-Derive.expr made
    (rw (c.get-in-Derive-2.ensures, c.get-in-Derive-3.ensures) at is)))
    c.derived.ensures

pub returns-in_ok-applied-in-Sample : goal.returns-in_ok-applied-in-Sample
returns-in_ok-applied-in-Sample t c =
    let base = c.args.base in
    let of = c.in-Sample.of in
    let seed = c.in-Sample.seed in
    let threshold = c.in-Sample.threshold in
    let table = c.in_ok-applied-in-Sample.field-0 in
    let inner : IsMadeOf of base table = rw c.get-in-Sample.ensures at c.in_ok-applied-in-Sample.ensures in
    IfOk-weaker c.sampled.result _ _
    (λ made is.
    let same : made ≡ with_rows table (picked_rows seed threshold table) = is in
    rw (c.in-Sample.is, same) (step-Sample of base table inner seed threshold))
    c.sampled.ensures

pub returns-in_ok-applied-in-Combine : goal.returns-in_ok-applied-in-Combine
returns-in_ok-applied-in-Combine t c =
    let base = c.args.base in
    let how = c.in-Combine.how in
    let one = c.in-Combine.left in
    let other = c.in-Combine.right in
    let left = c.in_ok-left-in-Combine.left in
    let right = c.in_ok-applied-in-Combine.field-0 in
    let lefts : IsMadeOf one base left = rw (c.get-in-Combine.ensures, c.in_ok-shared-in-Combine.ensures) at c.in_ok-left-in-Combine.ensures in
    let rights : IsMadeOf other base right = rw c.get-in-Combine-2.ensures at c.in_ok-applied-in-Combine.ensures in
    IfOk-weaker c.combined.result _ _
    (λ made is. rw c.in-Combine.is (step-Combine how one other base left right made lefts rights is))
    c.combined.ensures
