use Rattle.hv_expr.proofs.ReadyLemmas.{ready-cmp, ready-missing, ready-match, ready-and, ready-or, ready-not}
use Rattle.hv_expr.proofs.ready_pred.+of.Goals as goal

pub ReadyPred::of-returns-in_ok-to-in-Cmp : goal.ReadyPred::of-returns-in_ok-to-in-Cmp
ReadyPred::of-returns-in_ok-to-in-Cmp t c =
    rw (c.in-Cmp.is, c.find-place.ensures, c.as_str.ensures, c.in_ok-to-in-Cmp.ensures, c.lent.ensures)
    (ready-cmp c.args.schema.now c.in-Cmp.col c.in-Cmp.how c.in-Cmp.to)

pub ReadyPred::of-returns-in-Missing : goal.ReadyPred::of-returns-in-Missing
ReadyPred::of-returns-in-Missing t c =
    rw (c.in-Missing.is, c.find-place-in-Missing.ensures, c.as_str-in-Missing.ensures) (ready-missing c.args.schema.now c.in-Missing.col)

pub ReadyPred::of-returns-in_ok-test-in-Match : goal.ReadyPred::of-returns-in_ok-test-in-Match
ReadyPred::of-returns-in_ok-test-in-Match t c =
    rw (c.in-Match.is, c.find-place-in-Match.ensures, c.as_str-in-Match.ensures)
    (ready-match c.args.schema.now c.in-Match.col c.in-Match.test c.in_ok-test-in-Match.test c.in_ok-test-in-Match.ensures)

pub ReadyPred::of-returns-in_ok-all_of-in-And : goal.ReadyPred::of-returns-in_ok-all_of-in-And
ReadyPred::of-returns-in_ok-all_of-in-And t c =
    rw c.in-And.is
    (ready-and c.args.schema.now c.in-And.parts c.in_ok-all_of-in-And.field-0 (rw c.as_slice.ensures at c.in_ok-all_of-in-And.ensures))

pub ReadyPred::of-returns-in_ok-all_of-in-Or : goal.ReadyPred::of-returns-in_ok-all_of-in-Or
ReadyPred::of-returns-in_ok-all_of-in-Or t c =
    rw c.in-Or.is
    (ready-or c.args.schema.now c.in-Or.parts c.in_ok-all_of-in-Or.field-0 (rw c.as_slice-in-Or.ensures at c.in_ok-all_of-in-Or.ensures))

pub ReadyPred::of-returns-in_ok-boxed-in-Not : goal.ReadyPred::of-returns-in_ok-boxed-in-Not
ReadyPred::of-returns-in_ok-boxed-in-Not t c =
    rw (c.in-Not.is, c.in_ok-boxed-in-Not.ensures)
    (ready-not c.args.schema.now c.in-Not.of c.in_ok-of-in-Not.of (rw c.get.ensures at c.in_ok-of-in-Not.ensures))
