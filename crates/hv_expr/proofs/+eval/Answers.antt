use Rattle.hv_expr.proofs.PartLemmas.{and-holds, and-memory, or-holds, or-memory}
use Rattle.hv_expr.proofs.+eval.Goals as goal

pub pred::Pred::eval-returns-in-And : goal.pred::Pred::eval-returns-in-And
pred::Pred::eval-returns-in-And g t c = λ found there. rw (c.in-And.is, and-holds, and-memory, ← c.as_slice.ensures) (c.all_hold.ensures found there)

pub pred::Pred::eval-returns-in-Or : goal.pred::Pred::eval-returns-in-Or
pred::Pred::eval-returns-in-Or g t c = λ found there. rw (c.in-Or.is, or-holds, or-memory, ← c.as_slice-in-Or.ensures) (c.one_holds.ensures found there)
