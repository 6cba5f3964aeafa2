use Rattle.std.proofs.Common.{◌∙◌, Some, ap, sym}
use Rattle.std.proofs.lemmas.Option.{same_Some}
use Rattle.hv_member.proofs.SearchLemmas.{left-some}
use Rattle.hv_made.proofs.UnionSteps.{next-out, next-past}
use Rattle.hv_made.proofs.union.is_next.Goals as goal

-- the row is the first that isn't below itself
pub returns-in-Some-clause-value : goal.returns-in-Some-clause-value
returns-in-Some-clause-value c =
    sym (left-some c.args.row c.args.row c.args.rows.now.rows c.count.ensures.set.rising
    (sym c.requires.first ∙ c.in-Some.is ∙ ap Some c.if-found-row.true)).there

-- or it isn't there
pub returns-in_default-clause-value : goal.returns-in_default-clause-value
returns-in_default-clause-value c =
    sym (next-out c.args.row c.args.rows.now.rows c.count.ensures.set.rising
    (λ same. c.if-found-row.false (same_Some c.in-Some.found c.args.row (sym c.in-Some.is ∙ c.requires.first ∙ same))))

pub returns-in_default-clause-onward : goal.returns-in_default-clause-onward
returns-in_default-clause-onward c =
    c.requires.first ∙ next-past c.args.row c.args.rows.now.rows (next-out c.args.row c.args.rows.now.rows c.count.ensures.set.rising
    (λ same. c.if-found-row.false (same_Some c.in-Some.found c.args.row (sym c.in-Some.is ∙ c.requires.first ∙ same))))

pub returns-in_default-2-clause-value : goal.returns-in_default-2-clause-value
returns-in_default-2-clause-value c =
    sym (next-out c.args.row c.args.rows.now.rows c.count.ensures.set.rising (λ same. cc (c.in_default.is, c.requires.first, same)))

pub returns-in_default-2-clause-onward : goal.returns-in_default-2-clause-onward
returns-in_default-2-clause-onward c =
    c.requires.first ∙ next-past c.args.row c.args.rows.now.rows
    (next-out c.args.row c.args.rows.now.rows c.count.ensures.set.rising (λ same. cc (c.in_default.is, c.requires.first, same)))
